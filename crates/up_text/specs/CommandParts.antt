-- What the parts of the lexer read of a command's text.
use Rattle.std.specs.Prelude.{◌≡◌, ℕ, ◌+◌, ◌-◌, Bool, true, false, not, ◌||◌, if◌then◌else◌, List, [], ◌∷◌, ◌++◌, take, length, Option}
use Rattle.std.specs.List.{flat_map, list_all, suffix_len, take_while}
use Rattle.up_value.specs.declared.fault.TextFault.{TextFault}
use Rattle.up_value.specs.Values.{Bytes}
use Rattle.up_text.specs.Tokens.{Mark, Fail, Outside, marks}
use Rattle.up_text.specs.Places.{feeds, is_space, is_stop, command_bytes}
use Rattle.up_text.specs.Lexer.{Holds, is_line_end, is_spelling, begins_gap}

-- the marks of a text in which a command is read, those after its stanza's end too: parentheses are bytes like any other
abbrev pub marks_in : Bytes → List Mark
marks_in text = marks false 0 (Outside false) text

-- those up to the stanza's end
abbrev pub command_marks : Bytes → List Mark
command_marks text = take_while (λ mark. not (is_stop mark)) (marks_in text)

-- marks without the blanks and the comment at their end
abbrev pub trim_end_blanks : List Mark → List Mark
trim_end_blanks statement = take (length statement - suffix_len is_space statement) statement

-- a mark of a command that isn't refused
abbrev pub is_kept : Mark → Bool
is_kept mark = is_spelling mark || is_space mark

-- a gap, and what stands after it; it is written if the stanza doesn't end there
pub record Between (text : Bytes) (line : ℕ) (rest : Bytes) (reached : ℕ)
    (old new : Option Bytes) : Type 0 where
  pub bytes : Bytes
  pub front : List Mark
  pub joined : text ≡ bytes ++ rest
  pub same : marks_in text ≡ front ++ marks_in rest
  pub long : length front ≡ length bytes
  pub spaces : list_all is_space front ≡ true
  pub ends : begins_gap false rest ≡ false
  pub counted : reached ≡ line + feeds bytes
  pub pushed : (held : Bytes) → Holds old held
      → Holds new (held ++ (if is_line_end rest then [] else flat_map command_bytes front))

-- part of a command's text, and the marks that are appended for it: without the blanks at their end, the marks of the text are these
-- and then those of the rest
pub record Told (text : Bytes) (line : ℕ) (rest : Bytes) (reached : ℕ) (old new : Option Bytes) : Type 0 where
  pub bytes : Bytes
  pub front : List Mark
  pub told : List Mark
  pub joined : text ≡ bytes ++ rest
  pub same : marks_in text ≡ front ++ marks_in rest
  pub long : length front ≡ length bytes
  pub kept : list_all is_kept front ≡ true
  pub counted : reached ≡ line + feeds bytes
  pub tidy : trim_end_blanks (command_marks text) ≡ told ++ trim_end_blanks (command_marks rest)
  pub pushed : (held : Bytes) → Holds old held → Holds new (held ++ flat_map command_bytes told)

-- a command's text that is refused at the text's end
pub record Refused (text : Bytes) (fault : TextFault) : Type 0 where
  pub front : List Mark
  pub same : marks_in text ≡ front ++ Fail fault ∷ []
  pub kept : list_all is_kept front ≡ true
