-- The stanzas of a job as they stand in its files: those of its own, and then those of its override.
use Rattle.std.specs.Prelude.{ℕ, Bool, true, false, ◌&&◌, nat_le, if◌then◌else◌, List, [], ◌∷◌, ◌++◌, length, Result, Ok, Err, codes}
use Rattle.std.specs.List.{list_any}
use Rattle.std.specs.Str.{bytes_eq, is_utf8}
use Rattle.up_value.specs.Values.{Bytes}
use Rattle.up_conf.specs.declared.folder.File.{File}
use Rattle.up_stanza.specs.declared.stanza.Stanza.{Stanza}
use Rattle.up_stanza.specs.Confs.{conf_of}
use Rattle.up_lint.specs.declared.head.Head.{Head}
use Rattle.up_lint.specs.declared.sheet.Spot.{Spot}
use Rattle.up_lint.specs.Heads.{begins, heads_of, says}

-- the path of a job's own file, or of its override
abbrev pub path_of : Bytes → Bool → Bytes
path_of name over = name ++ (if over then codes ".override" else codes ".conf")

-- the bytes of the first file with a path, none if there is no such file
abbrev pub bytes_at : List File → Bytes → Bytes
bytes_at [] path = []
bytes_at (file ∷ files) path = if bytes_eq file.path path then file.bytes else bytes_at files path

-- a text of which the stanzas are looked at
abbrev pub is_text : Bytes → Bool
is_text bytes = nat_le (length bytes) 1048576 && is_utf8 bytes

-- the stanzas of a file
abbrev pub heads_in : Bool → Bytes → List Head
heads_in over bytes = if is_text bytes then heads_of over bytes else []

-- the stanzas of an override, by what is read of it: a faulty one counts for nothing
abbrev pub override_by : Bytes → Result (List Stanza) ℕ → List Head
override_by bytes (Ok stanzas) = heads_in true bytes
override_by bytes (Err line) = []

abbrev pub override_heads : Bytes → List Head
override_heads bytes = override_by bytes (conf_of bytes)

-- the stanzas of the job of this name
unfoldable pub sheet_of : List File → Bytes → List Head
sheet_of files name = heads_in false (bytes_at files (path_of name false))
    ++ override_heads (bytes_at files (path_of name true))

-- where a stanza stands
abbrev pub spot_at : Head → Spot
spot_at head = record { over = head.over; line = head.line }

-- where the last stanza stands that begins with a word and has another after it, or else this
abbrev pub spot_or : Spot → Bytes → Bytes → List Head → Spot
spot_or spot first word [] = spot
spot_or spot first word (head ∷ heads) =
    spot_or (if says first word head then spot_at head else spot) first word heads

-- the same, or else the first line of the job's own file
abbrev pub spot_of : Bytes → Bytes → List Head → Spot
spot_of first word heads = spot_or (record { over = false; line = 1 }) first word heads

-- whether a job says `manual`
abbrev pub is_manual : List Head → Bool
is_manual heads = list_any (begins (codes "manual")) heads
