-- What a process runs (init(5), `exec` and `script`).
use Rattle.std.specs.Prelude.{ℕ, Bool, ◌==◌, nat_le, if◌then◌else◌, List, ◌++◌, length, Option, None, Some, codes}
use Rattle.std.specs.List.{list_any}
use Rattle.up_value.specs.Values.{Bytes}
use Rattle.up_text.specs.Scripts.{words_in}
use Rattle.up_stanza.specs.declared.action.Action.{Action}
use Rattle.up_stanza.specs.declared.action.Action.TheVariants.{Words, Shell}

-- the bytes that a shell reads as more than themselves
unfoldable pub is_shell : ℕ → Bool
is_shell byte = list_any (λ special. special == byte) (codes "~`!$^&*()=|\\{}[];\"'<>?")

-- words to run, 65,535 at most
abbrev pub words_action : List Bytes → Option Action
words_action words = if nat_le (length words) 65535 then Some (Words words) else None

-- what the text of a command says: words if it needs no shell
unfoldable pub action_of : Bytes → Option Action
action_of text =
    if length text == 0 then None
    else (if list_any is_shell text then Some (Shell (codes "exec " ++ text))
    else words_action (words_in text))
