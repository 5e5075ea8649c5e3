-- What a step asks for, by the summary of an instance.
use Rattle.std.specs.Prelude.{◌≡◌, ⊤, ℕ, List, [], ◌∷◌, Option, None, Some, if◌then◌else◌}
use Rattle.up_job.specs.Changes.{child_of}
use Rattle.up_conf.specs.declared.job.JobDef.{JobDef}
use Rattle.up_stanza.specs.declared.process.Process.{Process}
use Rattle.up_text.specs.Bindings.{set_all}
use Rattle.up_model.specs.declared.event.Event.{Event}
use Rattle.up_model.specs.declared.life.JobEvent.{JobEvent}
use Rattle.up_model.specs.declared.output.Output.{Output}
use Rattle.up_model.specs.declared.who.Who.{Who}
use Rattle.up_model.specs.Events.{life_event, exporting}
use Rattle.up_model.specs.Moves.{action_of}
use Rattle.up_model.specs.Outputs.{order_for, signal_of}
use Rattle.up_model.specs.Readings.{has_stop_env}
use Rattle.up_model.specs.Replies.{own_process}
use Rattle.up_model.specs.Status.{status_text}
use Rattle.up_model.specs.Values.{Bytes, Bindings}
use Rattle.up_job.specs.declared.child.Children.{Children}
use Rattle.up_book.specs.Summaries.{Summary}
use Rattle.up_book.specs.Views.{Places, view}
use Rattle.up_job.specs.declared.instance.Instance.{Instance as Kept}
use Rattle.up_job.specs.declared.instances.JobInstances.{JobInstances}

-- an output, if there is one
abbrev pub listed : Option Output → List Output
listed None = []
listed (Some output) = output ∷ []

abbrev pub who_by : JobDef → Summary → Who
who_by job s = record { job = job.name; instance = s.name }

abbrev pub env_by : Summary → Process → Bindings
env_by s its = if has_stop_env its then set_all s.env s.stop_env else s.env

abbrev pub order_by : JobDef → Summary → Process → List Output
order_by job s its = order_for job (who_by job s) its (action_of job its) (env_by s its)

abbrev pub signal_by : JobDef → Summary → (signal : ℕ) → List Output
signal_by job s signal = signal_of (Some (who_by job s)) signal s.children.main.pid

abbrev pub event_by : JobDef → Summary → JobEvent → Event
event_by job s kind = exporting s.env job.export (life_event kind (who_by job s) s.failure)

abbrev pub own_pid : Option Process → Children → Option ℕ
own_pid None works = None
own_pid (Some its) children = (child_of its children).pid

abbrev pub status_by : JobDef → Summary → Bytes
status_by job s = status_text (who_by job s) s.goal s.state s.children.main.pid (own_pid (own_process s.state) s.children)

-- what is asked for by which a process of an instance is started
abbrev pub IsOrder : JobDef → Option Kept → Process → Option Output → Type 0
IsOrder job None its output = output ≡ None
IsOrder job (Some kept) its output = (places : Places) → listed output ≡ order_by job (view places kept) its

-- and by which its main gets a signal
abbrev pub IsSignal : Option JobInstances → Option Kept → (signal : ℕ) → Option Output → Type 0
IsSignal (Some job) (Some kept) signal output =
    (places : Places) (its : JobDef) → its.name ≡ job.name → listed output ≡ signal_by its (view places kept) signal
IsSignal job kept signal output = ⊤
