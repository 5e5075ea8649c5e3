-- What is kept of instances, seen as summaries.
use Rattle.std.specs.Prelude.{ℕ, List, [], Option, None, Some, map, option_map}
use Rattle.up_job.specs.JobLists.{list_of}
use Rattle.up_job.specs.Lists.{nth}
use Rattle.up_model.specs.declared.event_id.EventId.{EventId}
use Rattle.up_model.specs.Values.{Bindings}
use Rattle.up_job.specs.declared.instance_key.InstanceKey.{InstanceKey}
use Rattle.up_job.specs.declared.holder.Holder.{Holder}
use Rattle.up_job.specs.declared.holder.Holder.TheVariants as holder
use Rattle.up_job.specs.declared.instances.JobInstances.{JobInstances}
use Rattle.up_job.specs.declared.instance.Instance.{Instance as Kept}
use Rattle.up_book.specs.Summaries.{Holding, ByEvent, ByClient, Summary, JobSummary}

-- where the event of an id was queued
abbrev pub Places : Type 0
Places = EventId → Option ℕ

abbrev pub holding_of : Places → Holder → Option Holding
holding_of places (holder.Event id) = option_map ByEvent (places id)
holding_of places (holder.Client id command) = Some (ByClient id command)

abbrev pub bindings_of : Option Bindings → Bindings
bindings_of None = []
bindings_of (Some bindings) = bindings

abbrev pub pending_of : Option Bindings → Option Bindings → Bindings
pending_of None env = bindings_of env
pending_of (Some pending) env = pending

abbrev pub view : Places → Kept → Summary
view places kept = record {
  name = kept.name;
  file = kept.file;
  goal = kept.goal;
  state = kept.state;
  restarted = kept.restarted;
  pending = pending_of kept.pending kept.env;
  env = bindings_of kept.env;
  stop_env = bindings_of kept.stop_env;
  failure = kept.failure;
  holders = map (holding_of places) kept.holders;
  blocker = option_map places kept.blocker;
  children = kept.children;
  kill_moment = kept.kill_moment;
  moments = kept.moments;
}

abbrev pub job_view : Places → JobInstances → JobSummary
job_view places job = record {
  name = job.name;
  instances = map (view places) job.instances;
}

abbrev pub kept_in : ℕ → Option JobInstances → Option Kept
kept_in at job = nth at (list_of job)

-- what is kept of the instance of a key
abbrev pub kept_at : InstanceKey → List JobInstances → Option Kept
kept_at key jobs = kept_in key.at (nth key.job jobs)
