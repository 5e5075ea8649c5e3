-- What the chronicle says of an instance, in one record, and of a job.
use Rattle.std.specs.Prelude.{ℕ, Bool, false, List, [], Option, None, Some, map, option_map, take}
use Rattle.up_conf.specs.declared.job.JobDef.{JobDef}
use Rattle.up_stanza.specs.declared.process.Process.{Process}
use Rattle.up_stanza.specs.declared.process.Process.TheVariants as process
use Rattle.up_model.specs.declared.failure.Failure.{Failure}
use Rattle.up_model.specs.declared.input.Input.TheVariants as input
use Rattle.up_model.specs.declared.request.Command.{Command}
use Rattle.up_model.specs.declared.state.Goal.{Goal}
use Rattle.up_model.specs.declared.state.Goal.TheVariants.{Stop}
use Rattle.up_model.specs.declared.state.State.{State}
use Rattle.up_model.specs.declared.state.State.TheVariants as state
use Rattle.up_model.specs.Chronicle.{Chronicle, Entry, Given, Queued}
use Rattle.up_model.specs.Clock.{kill_moment}
use Rattle.up_model.specs.Instances.{Instance, instances_of}
use Rattle.up_model.specs.Readings.{entry_at, goal, state_of, was_restarted, pending_env, env, stop_env, failure, holders, blocker, is_awaited, pid_of}
use Rattle.up_model.specs.Values.{Bytes, Bindings}
use Rattle.circular_buffer.specs.Buffer.{Buffer, buffer}
use Rattle.up_job.specs.InstanceLists.{idle}
use Rattle.up_job.specs.Moments.{moments_of, room}
use Rattle.up_job.specs.declared.child.Child.{Child}
use Rattle.up_job.specs.declared.child.Children.{Children}

-- what holds an instance: the event that was queued at a place, or a client by the number of its request and what it asked
pub data Holding : Type 0 where
  ByEvent : (place : ℕ) → Holding
  ByClient : (id : ℕ) → (command : Command) → Holding

abbrev pub holding_in : ℕ → Option Entry → Option Holding
holding_in place (Some (Queued origin event)) = Some (ByEvent place)
holding_in place (Some (Given (input.Request id request))) = Some (ByClient id request.command)
holding_in place other = None

-- what holds by a place
abbrev pub holding_at : Chronicle → ℕ → Option Holding
holding_at c place = holding_in place (entry_at place c)

-- what is known of a process of an instance
abbrev pub work_at : ℕ → Process → Chronicle → Child
work_at instance its c = record { awaited = is_awaited instance its c; pid = pid_of instance its c }

abbrev pub works_at : ℕ → Chronicle → Children
works_at instance c = record {
  main = work_at instance process.Main c;
  pre_start = work_at instance process.PreStart c;
  post_start = work_at instance process.PostStart c;
  pre_stop = work_at instance process.PreStop c;
  post_stop = work_at instance process.PostStop c;
}

-- All that is to be known of an instance. A place is `Some` of itself, since a key may stand for none.
pub record Summary : Type 0 where
  pub name : Bytes
  pub file : JobDef
  pub goal : Goal
  pub state : State
  pub restarted : Bool
  pub pending : Bindings
  pub env : Bindings
  pub stop_env : Bindings
  pub failure : Option Failure
  pub holders : List (Option Holding)
  pub blocker : Option (Option ℕ)
  pub children : Children
  pub kill_moment : Option ℕ
  pub moments : Buffer ℕ

abbrev pub known : Option ℕ → Option (Option ℕ)
known place = option_map Some place

abbrev pub summary : Chronicle → Instance → Summary
summary c its = record {
  name = its.name;
  file = its.file;
  goal = goal its.place c;
  state = state_of its.place c;
  restarted = was_restarted its.place c;
  pending = pending_env its.place c;
  env = env its.place c;
  stop_env = stop_env its.place c;
  failure = failure its.place c;
  holders = map (holding_at c) (holders its.place c);
  blocker = known (blocker its.place c);
  children = works_at its.place c;
  kill_moment = kill_moment its.place c;
  moments = buffer (take (room its.file.limit) (moments_of its.place c)) (room its.file.limit);
}

-- and of a job
pub record JobSummary : Type 0 where
  pub name : Bytes
  pub instances : List Summary

abbrev pub job_summary : Chronicle → JobDef → JobSummary
job_summary c job = record {
  name = job.name;
  instances = map (summary c) (instances_of job.name c);
}

-- an instance of which nothing is known but its file and its name
abbrev pub blank : JobDef → Bytes → Summary
blank file name = record {
  name = name;
  file = file;
  goal = Stop;
  state = state.Waiting;
  restarted = false;
  pending = [];
  env = [];
  stop_env = [];
  failure = None;
  holders = [];
  blocker = None;
  children = idle;
  kill_moment = None;
  moments = buffer [] (room file.limit);
}
