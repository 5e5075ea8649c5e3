-- How a table is kept as bytes. Numbers have their highest byte first.
use Rattle.std.specs.Prelude.{◌≡◌, ℕ, ◌+◌, ◌≤◌, Bool, true, ◌&&◌, nat_le, List, [], ◌∷◌, ◌++◌, length, Option, None, Some, if◌then◌else◌, codes}
use Rattle.std.specs.List.{flat_map, list_all}
use Rattle.byteorder.specs.Endian.{big_bytes}
use Rattle.up_expr.specs.declared.expr.Test.{Test}
use Rattle.up_expr.specs.declared.expr.Test.TheVariants.{Place, Same, Differs}
use Rattle.up_expr.specs.declared.node.Node.{Node}
use Rattle.up_expr.specs.declared.node.Node.TheVariants as node
use Rattle.up_expr.specs.Flat.{nodes_of, size}
use Rattle.up_expr.specs.Trees.{Tree}
use Rattle.up_stanza.specs.declared.action.Action.{Action}
use Rattle.up_stanza.specs.declared.action.Action.TheVariants.{Words, Shell}
use Rattle.up_stanza.specs.declared.exit.Exit.{Exit}
use Rattle.up_stanza.specs.declared.exit.Exit.TheVariants as exit
use Rattle.up_stanza.specs.declared.setting.Setting.{Setting}
use Rattle.up_conf.specs.declared.job.JobDef.{JobDef}
use Rattle.up_image.specs.Index.{entries_of, index_part}
use Rattle.up_image.specs.Texts.{text_part}
use Rattle.up_image.specs.Versions.{version_number, fits_reload}
use Rattle.up_image.specs.declared.version.Version.{Version}
use Rattle.up_image.specs.declared.version.Version.TheVariants as version

-- a list: how many items it has, then the items
abbrev pub list_part : {X : Type 0} → (X → List ℕ) → List X → List ℕ
list_part part xs = big_bytes 2 (length xs) ++ flat_map part xs

-- the value of a key, if it has one
abbrev pub value_part : Option (List ℕ) → List ℕ
value_part None = 0 ∷ []
value_part (Some value) = 1 ∷ text_part value

abbrev pub setting_part : Setting → List ℕ
setting_part setting = text_part setting.key ++ value_part setting.value

abbrev pub exit_part : Exit → List ℕ
exit_part (exit.Status status) = 0 ∷ status ∷ []
exit_part (exit.Signal signal) = 1 ∷ signal ∷ []

-- what a process runs, if there is one
abbrev pub action_part : Option Action → List ℕ
action_part None = 0 ∷ []
action_part (Some (Words words)) = 1 ∷ list_part text_part words
action_part (Some (Shell text)) = 2 ∷ text_part text

abbrev pub test_part : Test → List ℕ
test_part (Place value) = 0 ∷ text_part value
test_part (Same key value) = 1 ∷ (text_part key ++ text_part value)
test_part (Differs key value) = 2 ∷ (text_part key ++ text_part value)

abbrev pub node_part : Node → List ℕ
node_part (node.Leaf leaf) = 0 ∷ (text_part leaf.event ++ list_part test_part leaf.values)
node_part (node.And left right) = 1 ∷ (big_bytes 2 left ++ big_bytes 2 right)
node_part (node.Or left right) = 2 ∷ (big_bytes 2 left ++ big_bytes 2 right)

-- the nodes of an expression, none without one
abbrev pub nodes_in : Option Tree → List Node
nodes_in None = []
nodes_in (Some tree) = nodes_of 0 tree

-- the flags of a job
abbrev pub bit : ℕ → Bool → ℕ
bit n set = if set then n else 0

abbrev pub flags : JobDef → ℕ
flags job = bit 1 job.task + bit 2 job.respawn + bit 4 job.silent

-- a job's own fields, its lists, its processes and its expressions
abbrev pub text_parts : JobDef → List ℕ
text_parts job = text_part job.name ++ (flags job ∷ []) ++ text_part job.instance ++ text_part job.dir

-- the reload signal, for which version 1 has no byte
abbrev pub reload_part : Version → JobDef → List ℕ
reload_part version.One job = []
reload_part version.Two job = job.reload_signal ∷ []

abbrev pub number_parts : Version → JobDef → List ℕ
number_parts version job =
    big_bytes 4 job.limit.count ++ big_bytes 4 job.limit.interval ++ (job.kill_signal ∷ [])
    ++ reload_part version job ++ big_bytes 4 job.kill_timeout

abbrev pub field_part : Version → JobDef → List ℕ
field_part version job = text_parts job ++ number_parts version job

abbrev pub set_part : JobDef → List ℕ
set_part job = list_part setting_part job.env ++ list_part text_part job.export
    ++ list_part exit_part job.normal

abbrev pub process_part : JobDef → List ℕ
process_part job =
    action_part job.main ++ action_part job.pre_start ++ action_part job.post_start
    ++ action_part job.pre_stop ++ action_part job.post_stop

abbrev pub event_part : JobDef → List ℕ
event_part job = list_part node_part (nodes_in job.start_on) ++ list_part node_part (nodes_in job.stop_on)

unfoldable pub job_part : Version → JobDef → List ℕ
job_part version job = field_part version job ++ set_part job ++ process_part job ++ event_part job

-- whether a number fits four bytes
abbrev pub fits_number : ℕ → Bool
fits_number number = nat_le number 4294967295

-- whether the numbers of its items fit: 65,535 in a list, and 4,095 nodes in an expression
abbrev pub is_countable : {X : Type 0} → List X → Bool
is_countable xs = nat_le (length xs) 65535

abbrev pub fits_action : Option Action → Bool
fits_action None = true
fits_action (Some (Words words)) = is_countable words
fits_action (Some (Shell text)) = true

abbrev pub fits_node : Node → Bool
fits_node (node.Leaf leaf) = is_countable leaf.values
fits_node (node.And left right) = true
fits_node (node.Or left right) = true

abbrev pub is_short : Option Tree → Bool
is_short None = true
is_short (Some tree) = nat_le (size tree) 4095

abbrev pub fits_condition : Option Tree → Bool
fits_condition condition = is_short condition && list_all fits_node (nodes_in condition)

abbrev pub fits_numbers : Version → JobDef → Bool
fits_numbers version job = fits_number job.limit.count && fits_number job.limit.interval
    && fits_reload version job.reload_signal && fits_number job.kill_timeout

abbrev pub fits_lists : JobDef → Bool
fits_lists job = is_countable job.env && is_countable job.export && is_countable job.normal

abbrev pub fits_processes : JobDef → Bool
fits_processes job =
    fits_action job.main && fits_action job.pre_start && fits_action job.post_start
    && fits_action job.pre_stop && fits_action job.post_stop

abbrev pub fits_events : JobDef → Bool
fits_events job = fits_condition job.start_on && fits_condition job.stop_on

-- whether a version can say all of a job
unfoldable pub fits : Version → JobDef → Bool
fits version job = fits_numbers version job && fits_lists job && fits_processes job && fits_events job

-- the jobs, and after them the index of the events
abbrev pub body_of : Version → List JobDef → List ℕ
body_of version jobs = flat_map (job_part version) jobs ++ index_part (entries_of jobs)

-- the mark of the format, its version, how many jobs there are, and how long the whole is
abbrev pub head_of : Version → ℕ → ℕ → List ℕ
head_of version jobs long =
    codes "UPTB" ++ big_bytes 2 (version_number version) ++ big_bytes 2 jobs ++ big_bytes 4 long

-- whether jobs have an image, of the version that is written: there are 1,024 at most, their numbers and lists fit, and the whole
-- has 16 MiB at most
unfoldable pub has_image : List JobDef → Bool
has_image jobs = nat_le (length jobs) 1024 && list_all (fits version.Two) jobs
    && nat_le (12 + length (body_of version.Two jobs)) 16777216

-- bytes are the image of jobs in a version: their head, which says how long they are, and their body; 16 MiB at most, 1,024 jobs at
-- most, each number as large as its bytes can say, each list as long as its number can say, and in version 1 the reload signal HUP
pub record IsVersion (version : Version) (bytes : List ℕ) (jobs : List JobDef) : Type 0 where
  pub written : bytes ≡ head_of version (length jobs) (length bytes) ++ body_of version jobs
  pub small : length bytes ≤ 16777216
  pub few : length jobs ≤ 1024
  pub counted : list_all (fits version) jobs ≡ true

-- bytes are the image of jobs that is written
abbrev pub IsImage : List ℕ → List JobDef → Type 0
IsImage bytes jobs = IsVersion version.Two bytes jobs
