-- The text of a command, which is the rest of its stanza as it is written.
use Rattle.std.specs.Prelude.{◌≡◌, ◌⊎◌, ℕ, ◌-◌, not, false, List, take, drop, length, Option, None, Some, Result, Ok, Err}
use Rattle.std.specs.List.{flat_map, prefix_len, suffix_len, take_while}
use Rattle.up_value.specs.declared.fault.TextFault.{TextFault}
use Rattle.up_value.specs.declared.fault.TextFault.TheVariants.{Memory}
use Rattle.up_value.specs.Values.{Bytes}
use Rattle.up_text.specs.Tokens.{Mark, Outside, marks}
use Rattle.up_text.specs.Places.{Place, is_space, is_stop, command_bytes, fault_in, place_after}

-- the marks up to the stanza's end
unfoldable pub command_marks_at : Place → List Mark
command_marks_at place = take_while (λ mark. not (is_stop mark)) (marks false 0 (Outside false) place.rest)

-- marks without the blanks and the comment at both ends
abbrev pub trim_blanks : List Mark → List Mark
trim_blanks statement =
    let body = drop (prefix_len is_space statement) statement in
    take (length body - suffix_len is_space body) body

-- the command's text: quotes and backslashes stay
abbrev pub command_in : List Mark → Bytes
command_in statement = flat_map command_bytes (trim_blanks statement)

-- what reading a command's text may answer: the text, and the place at its stanza's end; the fault of memory, or why the text is
-- refused, and the place stays
abbrev pub CommandUnless : Place → Option TextFault → Result Bytes TextFault → Place → Type 0
CommandUnless old (Some fault) result new = (result ≡ Err fault) × (new ≡ old)
CommandUnless old None result new =
    ((result ≡ Ok (command_in (command_marks_at old)))
    × (new ≡ place_after (length (command_marks_at old)) old)) ⊎ ((result ≡ Err Memory) × (new ≡ old))

abbrev pub ReadsCommand : Place → Result Bytes TextFault → Place → Type 0
ReadsCommand old result new = CommandUnless old (fault_in (command_marks_at old)) result new
