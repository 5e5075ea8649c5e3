-- The life of an instance: what it waits for in a state, which state follows, and what entering one does (the Upstart Cookbook's
-- table of states).
use Rattle.std.specs.Prelude.{Bool, true, false, ◌||◌, not, None, Some, if◌then◌else◌}
use Rattle.up_stanza.specs.declared.process.Process as processes
use Rattle.up_stanza.specs.declared.process.Process.TheVariants as process
use Rattle.up_model.specs.declared.life.EntryActions.{EntryActions}
use Rattle.up_model.specs.declared.life.JobEvent.TheVariants as event
use Rattle.up_model.specs.declared.state.Goal.{Goal}
use Rattle.up_model.specs.declared.state.Goal.TheVariants.{Start, Stop}
use Rattle.up_model.specs.declared.state.State.{State}
use Rattle.up_model.specs.declared.state.State.TheVariants.{Waiting, Starting, PreStart, Spawned, PostStart, Running, PreStop, Stopping, Killed, PostStop}

-- where an instance goes from post-start and pre-stop under goal start: on, unless its main process is gone
abbrev pub if_whole : Bool → Bool → State
if_whole has_main lives = if not has_main || lives then Running else Stopping

-- whether there is a next state: an instance that waits has none unless it is to start
abbrev pub may_move : Goal → State → Bool
may_move Stop Waiting = false
may_move aim from = true

-- the next state by goal and state, by whether the job has a main process, and whether it lives
abbrev pub next_state : Goal → State → (has_main lives : Bool) → State
next_state Start Waiting has_main lives = Starting
next_state Start Starting has_main lives = PreStart
next_state Start PreStart has_main lives = Spawned
next_state Start Spawned has_main lives = PostStart
next_state Start PostStart has_main lives = if_whole has_main lives
next_state Start Running has_main lives = Stopping
next_state Start PreStop has_main lives = if_whole has_main lives
next_state Start Stopping has_main lives = Killed
next_state Start Killed has_main lives = PostStop
next_state Start PostStop has_main lives = Starting
next_state Stop Waiting has_main lives = Waiting
next_state Stop Starting has_main lives = Stopping
next_state Stop PreStart has_main lives = Stopping
next_state Stop Spawned has_main lives = Stopping
next_state Stop PostStart has_main lives = Stopping
next_state Stop Running has_main lives = if lives then PreStop else Stopping
next_state Stop PreStop has_main lives = Stopping
next_state Stop Stopping has_main lives = Killed
next_state Stop Killed has_main lives = PostStop
next_state Stop PostStop has_main lives = Waiting

-- what an instance waits for before it leaves a state
pub data Wait : Type 0 where
  -- for a start
  ForStart : Wait
  -- for its own event to finish
  ForEvent : Wait
  -- for the answer to an order
  ForAnswer : (its : processes.Process) → Wait
  -- for a process to be refused or to end, if the job has it
  ForProcess : (its : processes.Process) → Wait
  -- for a reason to leave running: a stop, or the end of main
  ForChange : Wait
  -- for the end of main
  ForMain : Wait

abbrev pub wait_in : State → Wait
wait_in Waiting = ForStart
wait_in Starting = ForEvent
wait_in PreStart = ForProcess process.PreStart
wait_in Spawned = ForAnswer process.Main
wait_in PostStart = ForProcess process.PostStart
wait_in Running = ForChange
wait_in PreStop = ForProcess process.PreStop
wait_in Stopping = ForEvent
wait_in Killed = ForMain
wait_in PostStop = ForProcess process.PostStop

-- whether a state is pre-stop, from which running is entered again without a second `started`
abbrev pub is_pre_stop : State → Bool
is_pre_stop PreStop = true
is_pre_stop other = false

-- entering a state without anything else
abbrev pub plain : EntryActions
plain = record {
  orders = None;
  emits = None;
  releases = false;
  refreshes = false;
  kills = false;
  removes =
      false;
}

-- what entering a state does, coming from another: which process is ordered, which event of the job is emitted, whether the holders
-- are released, the pending environment comes into force, a living main is sent its signal, and the instance is removed
-- (a task keeps its holders until it has ended)
abbrev pub entering : State → (from : State) → (task : Bool) → EntryActions
entering Waiting from task = record plain { emits = Some event.Stopped; releases = true; removes = true }
entering Starting from task = record plain { emits = Some event.Starting; refreshes = true }
entering PreStart from task = record plain { orders = Some process.PreStart }
entering Spawned from task = record plain { orders = Some process.Main }
entering PostStart from task = record plain { orders = Some process.PostStart }
entering Running from task = record plain {
  emits =
      if is_pre_stop from then None else Some event.Started;
  releases = not task;
}
entering PreStop from task = record plain { orders = Some process.PreStop }
entering Stopping from task = record plain { emits = Some event.Stopping }
entering Killed from task = record plain { kills = true }
entering PostStop from task = record plain { orders = Some process.PostStop }
