-- What is said below a fault of a job file.
use Rattle.std.specs.Prelude.{ℕ, ◌-◌, if◌then◌else◌, List, [], ◌∷◌, ◌++◌, zero, suc, codes}
use Rattle.std.specs.List.{after_first, before_first}
use Rattle.std.specs.Str.{bytes_eq}
use Rattle.up_conf.specs.declared.folder.File.{File}
use Rattle.up_conf.specs.declared.report.Fault.{Fault}
use Rattle.up_stanza.specs.declared.fault.FaultCode.{FaultCode}
use Rattle.up_stanza.specs.declared.fault.FaultCode.TheVariants.{NotText, TooLarge, Memory}
use Rattle.up_text.specs.Tokens.{is_line_feed}
use Rattle.up_model.specs.Values.{Bytes}

-- the bytes of the first file with this path
abbrev pub bytes_at : List File → Bytes → Bytes
bytes_at [] path = []
bytes_at (file ∷ files) path = if bytes_eq file.path path then file.bytes else bytes_at files path

-- what stands after the first so many line feeds of a text
abbrev pub after_feeds : ℕ → Bytes → Bytes
after_feeds zero text = text
after_feeds (suc n) text = after_first is_line_feed (after_feeds n text)

-- a line of a text, counted from 1, without its line feed; nothing if there is none
abbrev pub line_at : Bytes → ℕ → Bytes
line_at text line = before_first is_line_feed (after_feeds (line - 1) text)

-- a line of its own, under the one above
unfoldable pub indented : Bytes → Bytes
indented line = codes "    " ++ line ++ codes "\n"

-- a line at fault, unless its file may be no text
abbrev pub shown_line : FaultCode → Bytes → Bytes
shown_line NotText line = []
shown_line TooLarge line = []
shown_line Memory line = []
shown_line code line = indented line

-- the lines below a fault: the line at fault as it stands in its file, and what is said of it
unfoldable pub advice_lines : Bytes → List File → Fault → Bytes
advice_lines said files fault =
    shown_line fault.code (line_at (bytes_at files fault.path) fault.line) ++ indented said
