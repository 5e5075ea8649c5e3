-- What becomes of an instance, one change at a time.
use Rattle.std.specs.Prelude.{ℕ, Bool, true, false, Option, None, Some, if◌then◌else◌}
use Rattle.up_stanza.specs.declared.process.Process.{Process}
use Rattle.up_stanza.specs.declared.process.Process.TheVariants.{Main, PreStart, PostStart, PreStop, PostStop}
use Rattle.up_model.specs.declared.state.Goal.TheVariants.{Start, Stop}
use Rattle.up_model.specs.declared.state.State.{State}
use Rattle.up_model.specs.declared.state.State.TheVariants.{Starting}
use Rattle.up_model.specs.Values.{Bindings}
use Rattle.up_job.specs.declared.change.Change.{Change}
use Rattle.up_job.specs.declared.change.Change.TheVariants as change
use Rattle.up_job.specs.declared.child.Child.{Child}
use Rattle.up_job.specs.declared.child.Children.{Children}
use Rattle.up_job.specs.declared.instance.Instance.{Instance}
use Rattle.up_job.specs.Moments.{noted}

abbrev pub is_starting : State → Bool
is_starting Starting = true
is_starting other = false

abbrev pub child_of : Process → Children → Child
child_of Main children = children.main
child_of PreStart children = children.pre_start
child_of PostStart children = children.post_start
child_of PreStop children = children.pre_stop
child_of PostStop children = children.post_stop

abbrev pub with_child : Process → Child → Children → Children
with_child Main child children = record children { main = child }
with_child PreStart child children = record children { pre_start = child }
with_child PostStart child children = record children { post_start = child }
with_child PreStop child children = record children { pre_stop = child }
with_child PostStop child children = record children { post_stop = child }

abbrev pub ordered : Process → Children → Children
ordered its children =
    with_child its (record { awaited = true; pid = (child_of its children).pid }) children

abbrev pub pid_after : Option ℕ → Option ℕ → Option ℕ
pid_after None before = before
pid_after (Some pid) before = Some pid

abbrev pub answered : Process → Option ℕ → Children → Children
answered its pid children =
    with_child its (record { awaited = false; pid = pid_after pid (child_of its children).pid }) children

abbrev pub lost : Process → Children → Children
lost its children =
    with_child its (record { awaited = (child_of its children).awaited; pid = None }) children

abbrev pub env_after : Option Bindings → Option Bindings → Option Bindings
env_after None env = env
env_after (Some pending) env = Some pending

-- the pending environment comes into force, and the failure is forgotten
abbrev pub begun : Instance → Instance
begun instance =
    record instance { failure = None; pending = None; env = env_after instance.pending instance.env }

abbrev pub entered : State → Instance → Instance
entered state instance = record (if is_starting state then begun instance else instance) {
  state = state;
  restarted = false;
  kill_moment = None;
}

-- an instance after a change
abbrev pub changed : Change → Instance → Instance
changed (change.Starts environment holders) instance =
    record instance { goal = Start; pending = Some environment; stop_env = None; holders = holders }
changed (change.Stops environment holders) instance =
    record instance { goal = Stop; stop_env = environment; holders = holders }
changed change.Ends instance = record instance { goal = Stop; stop_env = None }
changed (change.Restarts holders) instance = record instance { restarted = true; holders = holders }
changed (change.Releases none) instance = record instance { holders = none }
changed (change.Fails failure) instance = record instance { failure = Some failure }
changed (change.Enters state) instance = entered state instance
changed (change.Orders its) instance = record instance { children = ordered its instance.children }
changed (change.Answers its pid) instance = record instance { children = answered its pid instance.children }
changed (change.Loses its) instance = record instance { children = lost its instance.children }
changed (change.Signals moment) instance = record instance { kill_moment = moment }
changed (change.Waits event) instance = record instance { blocker = event }
changed (change.Respawns moment) instance = record instance { moments = noted moment instance.moments }
