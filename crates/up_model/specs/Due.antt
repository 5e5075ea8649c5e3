-- What a step does: the effect of its input, and then what is due until nothing is (the Upstart Cookbook, "Job lifecycle").
-- Each of these is a list of entries to be put before the chronicle, newest first.
use Rattle.std.specs.Prelude.{ℕ, not, ◌||◌, List, [], ◌∷◌, ◌++◌, Option, None, Some, if◌then◌else◌, length}
use Rattle.up_conf.specs.declared.job.JobDef.{JobDef}
use Rattle.up_stanza.specs.declared.process.Process.{Process}
use Rattle.up_model.specs.declared.failure.End.{End}
use Rattle.up_model.specs.declared.failure.End.TheVariants as end
use Rattle.up_model.specs.declared.event.Event.{Event}
use Rattle.up_model.specs.declared.input.Input.{Input}
use Rattle.up_model.specs.declared.input.Input.TheVariants as input
use Rattle.up_model.specs.declared.who.Who.{Who}
use Rattle.up_model.specs.Chronicle.{Chronicle, Entry, Given, Queued, Handled, Finished, Outside, Spoilt}
use Rattle.up_model.specs.Clock.{all_overdue, killing}
use Rattle.up_model.specs.Commands.{outcome_of, entries_of}
use Rattle.up_model.specs.Configuration.{Configuration}
use Rattle.up_model.specs.Events.{failure_of_event}
use Rattle.up_model.specs.Files.{own_file, names_in_order}
use Rattle.up_model.specs.Held.{is_held, is_spoilt}
use Rattle.up_model.specs.Instances.{instance_named}
use Rattle.up_model.specs.Loads.{loading}
use Rattle.up_model.specs.Judgement.{verdict_on_end, carry_out}
use Rattle.up_model.specs.Moves.{move_first}
use Rattle.up_model.specs.Offers.{offering, offer_next}
use Rattle.up_model.specs.Queue.{Live, queue}
use Rattle.up_model.specs.Readings.{event_at}
use Rattle.up_model.specs.Replies.{waiter, answering_waiter, answering_last}
use Rattle.up_model.specs.Predicates.{or_else}

-- what is due: the first instance that may leave its state moves; else the event of this step is offered to the next expression; else
-- the client is answered that asked for this step and doesn't wait
unfoldable pub due : Configuration → Chronicle → List Entry
due config c =
    or_else (move_first (names_in_order config c) c)
    (or_else (offer_next config (offering c) c) (answering_last c))

-- what the end or the refusal of a process does to an instance, if there is one, by its file
abbrev pub end_of : Option JobDef → Option ℕ → Process → End → Chronicle → List Entry
end_of None instance process end c = []
end_of (Some job) None process end c = []
end_of (Some job) (Some instance) process end c =
    carry_out instance (verdict_on_end job instance process end c) c

-- the same of an instance that is known outside by these names
abbrev pub end_by : Who → Process → End → Chronicle → List Entry
end_by who process end c = end_of (own_file who c) (instance_named who c) process end c

-- the event of a turn: the oldest that is unhandled, or handled and not held
abbrev pub turn_event : Configuration → List Live → Chronicle → Option Live
turn_event config [] c = None
turn_event config (live ∷ lives) c =
    if not live.handled || not (is_held config live.place c) then Some live else turn_event config lives c

-- an event is told of
abbrev pub telling : (spoilt : ℕ) → Option Event → List Entry
telling spoilt None = []
telling spoilt (Some told) = Queued (Spoilt spoilt) told ∷ []

-- the event that tells that another was spoilt, if it was
abbrev pub failed_event_of : ℕ → Chronicle → Option Event
failed_event_of event c = if is_spoilt event c then failure_of_event (event_at event c) else None

-- an event leaves the queue; the client that waits for it is answered, and if it was spoilt, another event tells so
abbrev pub finishing : (event : ℕ) → Chronicle → List Entry
finishing event c =
    telling event (failed_event_of event c)
    ++ (answering_waiter (waiter event c) (is_spoilt event c) ++ Finished event ∷ [])

-- a turn handles an unhandled event, and finishes a handled one
abbrev pub turn_of : Option Live → Chronicle → List Entry
turn_of None c = []
turn_of (Some live) c = if live.handled then finishing live.place c else Handled live.place ∷ []

-- the effect of an input, before the input itself
unfoldable pub effect : Configuration → Input → Chronicle → List Entry
effect config (input.Emit event) c = Queued (Outside (length c)) event ∷ Given (input.Emit event) ∷ []
effect config (input.Request id request) c =
    let d = Given (input.Request id request) ∷ c in
    entries_of (length c) (outcome_of config (length c) request d) ++ Given (input.Request id request)
    ∷ []
effect config (input.Spawned who process pid) c = Given (input.Spawned who process pid) ∷ []
effect config (input.Refused who process) c =
    let d = Given (input.Refused who process) ∷ c in
    end_by who process end.Refused d ++ Given (input.Refused who process) ∷ []
effect config (input.Ended who process how) c =
    let d = Given (input.Ended who process how) ∷ c in
    end_by who process (end.Ended how) d ++ Given (input.Ended who process how) ∷ []
effect config (input.Clock reading) c =
    let d = Given (input.Clock reading) ∷ c in
    killing (all_overdue (names_in_order config d) d) ++ Given (input.Clock reading) ∷ []
effect config input.Turn c = turn_of (turn_event config (queue c) c) (Given input.Turn ∷ c)
    ++ Given input.Turn ∷ []
effect config (input.Load id loaded) c = loading (length c) loaded ++ Given (input.Load id loaded) ∷ []
