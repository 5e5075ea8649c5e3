-- What is seen of instances in the steps of a run, and when.
use Rattle.std.specs.Prelude.{ℕ, ◌-◌, max, List, [], ◌∷◌, ◌++◌, Option, None, Some, unwrap_or, codes, if◌then◌else◌}
use Rattle.std.specs.List.{flat_map}
use Rattle.std.specs.Str.{bytes_eq}
use Rattle.up_stanza.specs.declared.process.Process.{Process}
use Rattle.up_stanza.specs.declared.process.Process.TheVariants as process
use Rattle.up_value.specs.Bindings.{value_of}
use Rattle.up_value.specs.Values.{Bindings, Bytes}
use Rattle.up_model.specs.declared.event.Event.{Event}
use Rattle.up_model.specs.declared.input.Input.{Input}
use Rattle.up_model.specs.declared.input.Input.TheVariants as input
use Rattle.up_model.specs.declared.output.Order.{Order}
use Rattle.up_model.specs.declared.output.Output.{Output}
use Rattle.up_model.specs.declared.output.Output.TheVariants as output
use Rattle.up_model.specs.declared.process.How.{How}
use Rattle.up_model.specs.declared.request.Command.{Command}
use Rattle.up_model.specs.declared.request.Command.TheVariants as command
use Rattle.up_model.specs.declared.state.State.{State}
use Rattle.up_model.specs.declared.state.State.TheVariants as state
use Rattle.up_model.specs.declared.step.Step.{Step}
use Rattle.up_model.specs.declared.step.Step.TheVariants as step
use Rattle.up_model.specs.declared.who.Who.{Who}
use Rattle.up_model.specs.Judgement.{is_success}
use Rattle.up_model.specs.Readings.{has_stop_env}
use Rattle.up_model.specs.Status.{instance_suffix}
use Rattle.up_chart.specs.declared.clock.Clock.{Clock}
use Rattle.up_chart.specs.declared.moment.Moment.{Moment}
use Rattle.up_chart.specs.declared.moment.Sign.{Sign}
use Rattle.up_chart.specs.declared.moment.Sign.TheVariants.{Enters, StartedBy, ByClient, Fails, Signal, Comes}

-- a clock that has read nothing yet
abbrev pub no_clock : Clock
no_clock = record { first = None; greatest = 0 }

-- the first reading and the greatest, after an input
abbrev pub clock_after : Clock → Input → Clock
clock_after clock (input.Clock reading) =
    record { first = Some (unwrap_or clock.first reading); greatest = max clock.greatest reading }
clock_after clock other = clock

abbrev pub since : Option ℕ → ℕ → ℕ
since None greatest = 0
since (Some first) greatest = greatest - first

-- milliseconds from the first reading to the greatest
abbrev pub time_of : Clock → ℕ
time_of clock = since clock.first clock.greatest

-- an instance as it is printed
abbrev pub name_of : Bytes → Bytes → Bytes
name_of job instance = job ++ instance_suffix instance

abbrev pub moment : ℕ → (job instance : Bytes) → Sign → Moment
moment time job instance sign = record { time = time; name = name_of job instance; sign = sign }

abbrev pub moments_by : ℕ → Who → Option Sign → List Moment
moments_by time who None = []
moments_by time who (Some sign) = moment time who.job who.instance sign ∷ []

-- the end of main that isn't a success is a failure; after pre-stop an instance runs again, unless it stops in the same step
abbrev pub end_sign : Process → How → Option Sign
end_sign process.Main how = if is_success how then None else Some Fails
end_sign process.PreStop how = Some (Enters state.Running)
end_sign other how = None

abbrev pub refusal_sign : Process → Option Sign
refusal_sign process.Main = Some Fails
refusal_sign process.PreStop = Some (Enters state.Running)
refusal_sign other = None

-- an event of an instance's life is named with the instance, and any other by its name alone
abbrev pub life_event : (name who : Bytes) → Bytes
life_event name who = name ++ codes " " ++ who

abbrev pub comes : ℕ → (event : Bytes) → List Moment
comes time event = (record { time = time; name = event; sign = Comes }) ∷ []

-- the event that a client emits
abbrev pub asked : ℕ → Command → (name : Bytes) → List Moment
asked time command.Emit name = comes time name
asked time other name = []

-- what an input shows
abbrev pub heard : ℕ → Input → List Moment
heard time (input.Emit event) = comes time event.name
heard time (input.Request id request) = asked time request.command request.name
heard time (input.Ended who its how) = moments_by time who (end_sign its how)
heard time (input.Refused who its) = moments_by time who (refusal_sign its)
heard time other = []

-- the state in which a process is ordered
abbrev pub state_by : Process → State
state_by process.Main = state.Spawned
state_by process.PreStart = state.PreStart
state_by process.PostStart = state.PostStart
state_by process.PreStop = state.PreStop
state_by process.PostStop = state.PostStop

-- the instance that JOB and INSTANCE name
abbrev pub instance_of : (job instance : Option Bytes) → Option Bytes
instance_of None instance = None
instance_of (Some job) None = None
instance_of (Some job) (Some instance) = Some (name_of job instance)

-- the instance that an environment names as that of the last event by which its own was started that is of an instance's life
-- (starting(7)); that of pre-stop and post-stop has the variables of the events that stopped it (init(5), "Job environment")
abbrev pub source_of : Process → Bindings → Option Bytes
source_of its env = if has_stop_env its then None
    else instance_of (value_of (codes "JOB") env) (value_of (codes "INSTANCE") env)

-- the events that started an instance, by the environment of its process; without events a client did
abbrev pub started_moments : ℕ → Who → (events source : Option Bytes) → List Moment
started_moments time who None source = moments_by time who (Some ByClient)
started_moments time who (Some events) source = moments_by time who (Some (StartedBy events source))

unfoldable pub order_moments : ℕ → Order → List Moment
order_moments time order =
    started_moments time order.who (value_of (codes "UPSTART_EVENTS") order.env) (source_of order.process order.env)
    ++ moments_by time order.who (Some (Enters (state_by order.process)))

-- the state that an event of an instance's life tells (starting(7), started(7), stopping(7), stopped(7))
abbrev pub state_told : Bytes → Option State
state_told name =
    if bytes_eq name (codes "starting") then Some state.Starting
    else (if bytes_eq name (codes "started") then Some state.Running
    else (if bytes_eq name (codes "stopping") then Some state.Stopping
    else (if bytes_eq name (codes "stopped") then Some state.Waiting
    else None)))

abbrev pub told_by : ℕ → (event : Bytes) → State → (who : Option Bytes) → List Moment
told_by time event to None = []
told_by time event to (Some who) =
    (record { time = time; name = who; sign = Enters to }) ∷ comes time (life_event event who)

abbrev pub told : ℕ → (event : Bytes) → Option State → (who : Option Bytes) → List Moment
told time event None who = comes time event
told time event (Some to) who = told_by time event to who

unfoldable pub event_moments : ℕ → Event → List Moment
event_moments time event =
    told time event.name (state_told event.name)
    (instance_of (value_of (codes "JOB") event.vars) (value_of (codes "INSTANCE") event.vars))

-- what an output shows
abbrev pub output_moments : ℕ → Output → List Moment
output_moments time (output.Spawn order) = order_moments time order
output_moments time (output.Signal who pid signal) = moments_by time who (Some (Signal signal))
output_moments time (output.Emitted event) = event_moments time event
output_moments time (output.Reply id answer) = []

-- what a step shows: one that isn't expected, nothing
abbrev pub step_moments : ℕ → Input → Step → List Moment
step_moments time given (step.Gave outputs) = heard time given ++ flat_map (output_moments time) outputs
step_moments time given step.NotExpected = []

-- what the steps of a run show, each at the time of the clock once it has read the input
abbrev pub moments_from : Clock → List Input → List Step → List Moment
moments_from clock [] steps = []
moments_from clock (given ∷ inputs) [] = []
moments_from clock (given ∷ inputs) (made ∷ steps) =
    let read = clock_after clock given in
    step_moments (time_of read) given made ++ moments_from read inputs steps

-- the clock after inputs
abbrev pub clock_at : Clock → List Input → Clock
clock_at clock [] = clock
clock_at clock (given ∷ inputs) = clock_at (clock_after clock given) inputs
