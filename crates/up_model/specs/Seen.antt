-- What an expression has seen, and what it says of that (init(5), "start on" and "stop on").
use Rattle.std.specs.Prelude.{ℕ, Bool, true, false, ◌==◌, List, [], ◌∷◌, ◌++◌, Option, None, Some, if◌then◌else◌}
use Rattle.std.specs.Str.{bytes_eq}
use Rattle.up_expr.specs.Trees.{Tree}
use Rattle.up_expr.specs.Truth.{Sight}
use Rattle.up_expr.specs.Truth as truth
use Rattle.up_model.specs.declared.event.Event.{Event}
use Rattle.up_model.specs.Chronicle.{Chronicle, Given, Offered, Fired, Loaded, Expression, StartOn, StopOn}
use Rattle.up_model.specs.Configuration.{Configuration}
use Rattle.up_model.specs.Environments.{env_of_job}
use Rattle.up_model.specs.Readings.{event_at, env}
use Rattle.up_model.specs.Values.{Bindings}

abbrev pub same_expression : Expression → Expression → Bool
same_expression (StartOn job) (StartOn other) = bytes_eq job other
same_expression (StopOn instance) (StopOn other) = instance == other
same_expression expression other = false

-- the environment by which an expression's values expand: of a `start on` that of the job, and of a `stop on` the environment in force
abbrev pub env_of : Configuration → Expression → Chronicle → Bindings
env_of config (StartOn job) c = env_of_job config job
env_of config (StopOn instance) c = env instance c

-- the event at a place, as one that was seen with this environment
abbrev pub sight_of : ℕ → Option Event → Bindings → List Sight
sight_of place None environment = []
sight_of place (Some event) environment =
    record { event = place; name = event.name; vars = event.vars; env = environment } ∷ []

-- the events that were offered to an expression since it fired last, oldest first; a `start on` has seen none of those before a load
abbrev pub seen : Configuration → Expression → Chronicle → List Sight
seen config expression [] = []
seen config expression (Offered other place ∷ c) =
    if same_expression other expression
    then seen config expression c ++ sight_of place (event_at place c) (env_of config expression c)
    else seen config expression c
seen config expression (Fired other taken ∷ c) =
    if same_expression other expression then [] else seen config expression c
seen config (StartOn job) (Loaded jobs ∷ c) = []
seen config expression (entry ∷ c) = seen config expression c

-- the events that an expression keeps, if the job file has the expression: the first of each leaf that has one
abbrev pub kept : Option Tree → List Sight → List ℕ
kept None sights = []
kept (Some tree) sights = truth.kept tree sights

-- whether it is true of what it has seen
abbrev pub holds : Option Tree → List Sight → Bool
holds None sights = false
holds (Some tree) sights = truth.holds tree sights

-- the events by which it is true, from left to right
abbrev pub taken : Option Tree → List Sight → List ℕ
taken None sights = []
taken (Some tree) sights = truth.taken tree sights

-- whether an expression was offered the event of this step
abbrev pub was_offered : Expression → Chronicle → Bool
was_offered expression [] = false
was_offered expression (Given input ∷ c) = false
was_offered expression (Offered other place ∷ c) =
    if same_expression other expression then true else was_offered expression c
was_offered expression (entry ∷ c) = was_offered expression c
