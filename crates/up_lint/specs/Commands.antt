-- What the commands and the scripts of jobs say, word by word.
use Rattle.std.specs.Prelude.{Bool, true, false, ◌||◌, ◌&&◌, ◌==◌, not, if◌then◌else◌, List, [], ◌∷◌, ◌++◌, Option, None, Some}
use Rattle.std.specs.List.{slice_split}
use Rattle.std.specs.Str.{bytes_eq}
use Rattle.up_value.specs.Values.{Bytes}
use Rattle.up_conf.specs.declared.job.JobDef.{JobDef}
use Rattle.up_stanza.specs.declared.action.Action.{Action}
use Rattle.up_stanza.specs.declared.action.Action.TheVariants.{Words, Shell}
use Rattle.up_lint.specs.declared.pieces.Cut.TheVariants as cut
use Rattle.up_lint.specs.Pieces.{is_cut}

-- an empty piece, or an option
abbrev pub is_passed : Bytes → Bool
is_passed [] = true
is_passed (byte ∷ piece) = byte == 45

-- whether a name may stand after a word
abbrev pub waits_after : (verb : Bytes) → Bool → Bytes → Bool
waits_after verb waits word = bytes_eq word verb || (waits && is_passed word)

-- a word, if a name may stand there, but for one that doesn't count
abbrev pub name_at : (except : Bytes) → Bool → Bytes → List Bytes
name_at except waits word = if waits && not (bytes_eq word except) then word ∷ [] else []

-- the words that stand right after the verb, or after options that do
abbrev pub names_after : (verb except : Bytes) → Bool → List Bytes → List Bytes
names_after verb except waits [] = []
names_after verb except waits (word ∷ words) =
    name_at except waits word ++ names_after verb except (waits_after verb waits word) words

-- the same of what a process runs
abbrev pub names_in : (verb except : Bytes) → Option Action → List Bytes
names_in verb except None = []
names_in verb except (Some (Words words)) = names_after verb except false words
names_in verb except (Some (Shell text)) = names_after verb except false (slice_split (is_cut cut.Words) text)

-- the same of all processes of a job
abbrev pub names_by : (verb except : Bytes) → JobDef → List Bytes
names_by verb except job = names_in verb except job.main ++ names_in verb except job.pre_start
    ++ names_in verb except job.post_start ++ names_in verb except job.pre_stop ++ names_in verb except job.post_stop
