-- What stands first in bytes, and the bytes after it.
use Rattle.std.specs.Prelude.{◌≡◌, ℕ, zero, suc, ◌==◌, Bool, true, false, nat_le, not, bit_and, List, [], ◌∷◌, ◌++◌, length, take, drop, Option, None, Some, option_map, option_and_then, if◌then◌else◌, Result, Ok, Err}
use Rattle.std.specs.Str.{is_utf8}
use Rattle.byteorder.specs.Endian.{big_number}
use Rattle.up_text.specs.Names.{is_name}
use Rattle.up_expr.specs.declared.expr.Leaf.{Leaf}
use Rattle.up_expr.specs.declared.expr.Test.{Test}
use Rattle.up_expr.specs.declared.expr.Test.TheVariants.{Place, Same, Differs}
use Rattle.up_expr.specs.Trees.{Tree, One}
use Rattle.up_expr.specs.TreeCode.{joined}
use Rattle.up_stanza.specs.declared.action.Action.{Action}
use Rattle.up_stanza.specs.declared.action.Action.TheVariants.{Words, Shell}
use Rattle.up_stanza.specs.declared.exit.Exit.{Exit}
use Rattle.up_stanza.specs.declared.exit.Exit.TheVariants as exit
use Rattle.up_stanza.specs.declared.setting.Setting.{Setting}
use Rattle.up_stanza.specs.Signals.{hup, is_signal}
use Rattle.up_conf.specs.declared.job.JobDef.{JobDef}
use Rattle.up_image.specs.declared.job_parts.Texts.{Texts}
use Rattle.up_image.specs.declared.job_parts.Numbers.{Numbers}
use Rattle.up_image.specs.declared.job_parts.Signals.{Signals}
use Rattle.up_image.specs.declared.job_parts.Lists.{Lists}
use Rattle.up_image.specs.declared.job_parts.Processes.{Processes}
use Rattle.up_image.specs.declared.job_parts.Events.{Events}
use Rattle.up_image.specs.declared.read_fault.ReadFault.{ReadFault}
use Rattle.up_image.specs.declared.read_fault.ReadFault.TheVariants.{BadTable, Memory}
use Rattle.up_image.specs.declared.version.Version.{Version}
use Rattle.up_image.specs.declared.version.Version.TheVariants as version

-- what is found and the bytes after it, if it is there
abbrev pub Found : Type 0 → Type 0
Found X = Option (X × List ℕ)

-- what was found, made into something
abbrev pub made : {X Y : Type 0} → (X → Y) → Found X → Found Y
made f found = option_map (λ x. (f x.0, x.1)) found

abbrev pub byte_at : List ℕ → Found ℕ
byte_at [] = None
byte_at (byte ∷ bytes) = Some (byte, bytes)

abbrev pub number_at : ℕ → List ℕ → Found ℕ
number_at n bytes = if nat_le n (length bytes) then Some (big_number n bytes, drop n bytes) else None

-- the first bytes, as many as there must be
abbrev pub split_at : ℕ × List ℕ → Found (List ℕ)
split_at counted =
    if nat_le counted.0 (length counted.1) then Some (take counted.0 counted.1, drop counted.0 counted.1)
    else None

abbrev pub if_text : List ℕ × List ℕ → Found (List ℕ)
if_text found = if is_utf8 found.0 then Some found else None

unfoldable pub text_at : List ℕ → Found (List ℕ)
text_at bytes = option_and_then (λ counted. option_and_then if_text (split_at counted)) (number_at 4 bytes)

abbrev pub if_name : List ℕ × List ℕ → Found (List ℕ)
if_name found = if is_name found.0 then Some found else None

unfoldable pub name_at : List ℕ → Found (List ℕ)
name_at bytes = option_and_then if_name (text_at bytes)

-- so many items, after those that were found before
abbrev pub items_at : {X : Type 0} → (List ℕ → Found X) → ℕ → List X → List ℕ → Found (List X)
items_at one zero before bytes = Some (before, bytes)
items_at one (suc count) before bytes =
    option_and_then (λ more. items_at one count (before ++ more.0 ∷ []) more.1) (one bytes)

-- a list, which says how many items it has
abbrev pub list_at : {X : Type 0} → (List ℕ → Found X) → List ℕ → Found (List X)
list_at one bytes = option_and_then (λ counted. items_at one counted.0 [] counted.1) (number_at 2 bytes)

-- what is set
abbrev pub value_by : ℕ × List ℕ → Found (Option (List ℕ))
value_by kind =
    if kind.0 == 0 then Some (None, kind.1)
    else (if kind.0 == 1 then made Some (text_at kind.1)
    else None)

unfoldable pub value_at : List ℕ → Found (Option (List ℕ))
value_at bytes = option_and_then value_by (byte_at bytes)

abbrev pub with_value : List ℕ × List ℕ → Found Setting
with_value key = made (λ value. record { key = key.0; value = value }) (value_at key.1)

unfoldable pub setting_at : List ℕ → Found Setting
setting_at bytes = option_and_then with_value (text_at bytes)

-- a signal by its number
abbrev pub signal_of : ℕ → Option ℕ
signal_of number = if is_signal number then Some number else None

-- an exit by its kind and its number
abbrev pub exit_of : ℕ → ℕ → Option Exit
exit_of kind number =
    if kind == 0 then Some (exit.Status number)
    else (if kind == 1 then option_map exit.Signal (signal_of number)
    else None)

unfoldable pub exit_at : List ℕ → Found Exit
exit_at bytes =
    option_and_then (λ kind. option_and_then
    (λ number. option_map (λ exit. (exit, number.1)) (exit_of kind.0 number.0)) (byte_at kind.1))
    (byte_at bytes)

-- what a process runs
abbrev pub action_by : ℕ × List ℕ → Found (Option Action)
action_by kind =
    if kind.0 == 0 then Some (None, kind.1)
    else (if kind.0 == 1 then made (λ words. Some (Words words)) (list_at text_at kind.1)
    else (if kind.0 == 2 then made (λ text. Some (Shell text)) (text_at kind.1)
    else None))

unfoldable pub action_at : List ℕ → Found (Option Action)
action_at bytes = option_and_then action_by (byte_at bytes)

-- a value of a leaf of this kind, of which the first text was read
abbrev pub keyed_by : ℕ → List ℕ → List ℕ → Option Test
keyed_by kind key value =
    if kind == 1 then Some (Same key value) else (if kind == 2 then Some (Differs key value) else None)

abbrev pub keyed_at : ℕ → List ℕ × List ℕ → Found Test
keyed_at kind first =
    option_and_then (λ value. option_map (λ test. (test, value.1)) (keyed_by kind first.0 value.0))
    (text_at first.1)

abbrev pub test_by : ℕ → List ℕ × List ℕ → Found Test
test_by kind first = if kind == 0 then Some (Place first.0, first.1) else keyed_at kind first

unfoldable pub test_at : List ℕ → Found Test
test_at bytes = option_and_then (λ kind. option_and_then (test_by kind.0) (text_at kind.1)) (byte_at bytes)

abbrev pub with_tests : List ℕ × List ℕ → Found Leaf
with_tests event = made (λ tests. record { event = event.0; values = tests }) (list_at test_at event.1)

unfoldable pub leaf_at : List ℕ → Found Leaf
leaf_at bytes = option_and_then with_tests (name_at bytes)

-- trees joined by the kind of a node
abbrev pub joined_by : ℕ → List Tree → Option (List Tree)
joined_by kind trees = if kind == 1 then joined true trees
    else (if kind == 2 then joined false trees else None)

-- the bytes after the places of both sides
abbrev pub after_sides : List ℕ → Option (List ℕ)
after_sides bytes =
    option_and_then (λ left. option_map (λ right. right.1) (number_at 2 left.1)) (number_at 2 bytes)

-- a node of this kind among trees: a leaf is a tree of its own
abbrev pub node_by : List Tree → ℕ × List ℕ → Found (List Tree)
node_by trees kind =
    if kind.0 == 0 then made (λ leaf. One leaf ∷ trees) (leaf_at kind.1)
    else option_and_then (λ bytes. option_map (λ now. (now, bytes)) (joined_by kind.0 trees))
    (after_sides kind.1)

unfoldable pub node_at : List Tree → List ℕ → Found (List Tree)
node_at trees bytes = option_and_then (node_by trees) (byte_at bytes)

-- the trees that so many nodes make
abbrev pub trees_at : ℕ → List Tree → List ℕ → Found (List Tree)
trees_at zero trees bytes = Some (trees, bytes)
trees_at (suc count) trees bytes =
    option_and_then (λ more. trees_at count more.0 more.1) (node_at trees bytes)

-- the one tree, or that there is none
abbrev pub one_tree : List Tree → Option (Option Tree)
one_tree [] = Some None
one_tree (tree ∷ []) = Some (Some tree)
one_tree (tree ∷ other ∷ trees) = None

abbrev pub trees_by : ℕ × List ℕ → Found (Option Tree)
trees_by counted =
    if nat_le counted.0 4095
    then option_and_then (λ trees. option_map (λ tree. (tree, trees.1)) (one_tree trees.0))
    (trees_at counted.0 [] counted.1)
    else None

unfoldable pub condition_at : List ℕ → Found (Option Tree)
condition_at bytes = option_and_then trees_by (number_at 2 bytes)

-- the parts of a job
unfoldable pub texts_at : List ℕ → Found Texts
texts_at bytes =
    option_and_then (λ name. option_and_then (λ flags. option_and_then (λ instance. made (λ dir.
    record { name = name.0; flags = flags.0; instance = instance.0; dir = dir })
    (text_at instance.1)) (text_at flags.1)) (byte_at name.1)) (name_at bytes)

-- the reload signal, which in version 1 is HUP and has no byte
abbrev pub reload_at : Version → List ℕ → Found ℕ
reload_at version.One bytes = Some (hup, bytes)
reload_at version.Two bytes = byte_at bytes

unfoldable pub numbers_at : Version → List ℕ → Found Numbers
numbers_at version bytes =
    option_and_then (λ count. option_and_then (λ interval. option_and_then (λ signal. option_and_then
    (λ reload. made (λ timeout.
    record {
      limit = record { count = count.0; interval = interval.0 };
      kill_signal = signal.0;
      kill_timeout = timeout;
      reload_signal = reload.0;
    })
    (number_at 4 reload.1)) (reload_at version signal.1)) (byte_at interval.1)) (number_at 4 count.1))
    (number_at 4 bytes)

unfoldable pub lists_at : List ℕ → Found Lists
lists_at bytes =
    option_and_then (λ env. option_and_then (λ keys. made (λ exits.
    record { env = env.0; export = keys.0; normal = exits })
    (list_at exit_at keys.1)) (list_at text_at env.1)) (list_at setting_at bytes)

unfoldable pub processes_at : List ℕ → Found Processes
processes_at bytes =
    option_and_then (λ main. option_and_then
    (λ pre_start. option_and_then (λ post_start. option_and_then (λ pre_stop. made (λ post_stop.
    record {
      main = main.0;
      pre_start = pre_start.0;
      post_start = post_start.0;
      pre_stop =
          pre_stop.0;
      post_stop = post_stop;
    })
    (action_at pre_stop.1)) (action_at post_start.1)) (action_at pre_start.1)) (action_at main.1))
    (action_at bytes)

unfoldable pub events_at : List ℕ → Found Events
events_at bytes =
    option_and_then (λ start. made (λ stop. record {
      start_on = start.0;
      stop_on =
          stop;
    }) (condition_at start.1))
    (condition_at bytes)

-- the signals of these numbers
abbrev pub signals_of : Numbers → Option Signals
signals_of numbers =
    option_and_then (λ kill. option_map (λ reload. record { kill = kill; reload = reload })
    (signal_of numbers.reload_signal)) (signal_of numbers.kill_signal)

-- whether a flag is set
abbrev pub has_flag : ℕ → ℕ → Bool
has_flag flag flags = not (bit_and flags flag == 0)

-- the job of its parts
abbrev pub job_by : Texts → Numbers → Signals → Lists → Processes → Events → JobDef
job_by texts numbers signals lists processes events = record {
  name = texts.name;
  task = has_flag 1 texts.flags;
  respawn = has_flag 2 texts.flags;
  silent = has_flag 4 texts.flags;
  instance = texts.instance;
  dir = texts.dir;
  limit = numbers.limit;
  kill_signal = signals.kill;
  kill_timeout = numbers.kill_timeout;
  reload_signal = signals.reload;
  env = lists.env;
  export = lists.export;
  normal = lists.normal;
  main = processes.main;
  pre_start = processes.pre_start;
  post_start = processes.post_start;
  pre_stop = processes.pre_stop;
  post_stop = processes.post_stop;
  start_on = events.start_on;
  stop_on = events.stop_on;
}

unfoldable pub job_at : Version → List ℕ → Found JobDef
job_at version bytes =
    option_and_then (λ texts. option_and_then
    (λ numbers. option_and_then (λ signals. option_and_then
    (λ lists. option_and_then (λ processes. made (λ events.
    job_by texts.0 numbers.0 signals lists.0 processes.0 events)
    (events_at processes.1)) (processes_at lists.1)) (lists_at numbers.1)) (signals_of numbers.0))
    (numbers_at version texts.1)) (texts_at bytes)

-- what a refused reading says: out of memory nothing, else that there is nothing to read
abbrev pub Refuses : {Y : Type 0} → ReadFault → Option Y → Type 0
Refuses Memory found = Unit {0}
Refuses BadTable found = found ≡ None

-- what was returned, seen by a view, is what is found
abbrev pub Reads : {X Y : Type 0} → (X → Y) → Result X ReadFault → Option Y → Type 0
Reads view (Ok x) found = found ≡ Some (view x)
Reads view (Err read_fault) found = Refuses read_fault found
