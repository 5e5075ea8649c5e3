-- Which variables stand in the jobs of a folder.
use Rattle.std.specs.Prelude.{Bool, ◌&&◌, not, List, [], ◌∷◌, ◌++◌, Option, None, Some, codes}
use Rattle.std.specs.List.{flat_map, list_any, slice_split}
use Rattle.std.specs.Str.{bytes_eq}
use Rattle.up_value.specs.Values.{Bytes}
use Rattle.up_conf.specs.declared.job.JobDef.{JobDef}
use Rattle.up_expr.specs.declared.expr.Leaf.{Leaf}
use Rattle.up_expr.specs.declared.expr.Test.{Test}
use Rattle.up_expr.specs.declared.expr.Test.TheVariants.{Place, Same, Differs}
use Rattle.up_expr.specs.Flat.{leaves_of}
use Rattle.up_expr.specs.Trees.{Tree}
use Rattle.up_stanza.specs.declared.action.Action.{Action}
use Rattle.up_stanza.specs.declared.action.Action.TheVariants.{Words, Shell}
use Rattle.up_stanza.specs.declared.setting.Setting.{Setting}
use Rattle.up_lint.specs.declared.pieces.Cut.TheVariants as cut
use Rattle.up_lint.specs.Pieces.{is_cut}

-- a variable that the init sets in events and processes
abbrev pub init_keys : List Bytes
init_keys = codes "JOB" ∷ codes "INSTANCE" ∷ codes "RESULT" ∷ codes "PROCESS" ∷ codes "EXIT_STATUS" ∷ codes "EXIT_SIGNAL"
    ∷ codes "UPSTART_JOB" ∷ codes "UPSTART_INSTANCE" ∷ codes "UPSTART_EVENTS" ∷ codes "UPSTART_STOP_EVENTS" ∷ []

-- what may be a key in a text
abbrev pub keys_in : Bytes → List Bytes
keys_in text = slice_split (is_cut cut.Keys) text

-- the keys in what a variable of an event must be
abbrev pub test_keys : Test → List Bytes
test_keys (Place value) = keys_in value
test_keys (Same other value) = other ∷ keys_in value
test_keys (Differs other value) = other ∷ keys_in value

abbrev pub leaf_keys : Leaf → List Bytes
leaf_keys leaf = flat_map test_keys leaf.values

-- the same of an expression
abbrev pub condition_keys : Option Tree → List Bytes
condition_keys None = []
condition_keys (Some tree) = flat_map leaf_keys (leaves_of tree)

-- the same of what a process runs
abbrev pub action_keys : Option Action → List Bytes
action_keys None = []
action_keys (Some (Words words)) = flat_map keys_in words
action_keys (Some (Shell text)) = keys_in text

abbrev pub setting_keys : Setting → List Bytes
setting_keys setting = setting.key ∷ []

-- the same of all processes of a job
unfoldable pub run_keys : JobDef → List Bytes
run_keys job = action_keys job.main ++ action_keys job.pre_start ++ action_keys job.post_start
    ++ action_keys job.pre_stop ++ action_keys job.post_stop

-- the keys in what a job sets and waits for, and in the names of its instances
unfoldable pub set_keys : JobDef → List Bytes
set_keys job = flat_map setting_keys job.env ++ condition_keys job.start_on ++ condition_keys job.stop_on ++ keys_in job.instance

-- the keys in a job, but for what it exports
unfoldable pub job_keys : JobDef → List Bytes
job_keys job = set_keys job ++ run_keys job

-- whether nothing sets a key that is exported: it is none of the init's, and not among those that stand in the jobs of the folder
abbrev pub is_unset : List Bytes → Bytes → Bool
is_unset keys key = not (list_any (bytes_eq key) init_keys) && not (list_any (bytes_eq key) keys)
