-- A job in runs, from their start.
use Rattle.std.specs.Prelude.{◌≡◌, List, [], ◌∷◌}
use Rattle.up_model.specs.declared.input.Input.{Input}
use Rattle.up_model.specs.declared.output.Output.{Output}
use Rattle.up_model.specs.Answers.{after_all, next}
use Rattle.up_model.specs.Configuration.{Configuration}
use Rattle.up_model.specs.Values.{Bytes}
use Rattle.up_isolation.specs.Isolation.{IsUnique, MeanTheSame}
use Rattle.up_isolation.specs.Parts.{Item, part}
use Rattle.up_isolation.specs.Views.{Notice, deeds, view}

-- what a run of these inputs brings to a job's notice, what is the job's part in it, and what the job does in it
abbrev pub view_of : Bytes → Configuration → List Input → List Notice
view_of job config inputs = view job config (after_all config [] inputs)

abbrev pub part_of : Bytes → Configuration → List Input → List Item
part_of job config inputs = part job config (after_all config [] inputs)

abbrev pub deeds_of : Bytes → Configuration → List Input → List Output
deeds_of job config inputs = deeds job (after_all config [] inputs)

-- the first two when one more input was given
abbrev pub view_with : Bytes → Configuration → List Input → Input → List Notice
view_with job config inputs given = view job config (next config (after_all config [] inputs) given)

abbrev pub part_with : Bytes → Configuration → List Input → Input → List Item
part_with job config inputs given = part job config (next config (after_all config [] inputs) given)

-- that input brings this to the job's notice
abbrev pub Brings : Bytes → Configuration → List Input → Input → Notice → Type 0
Brings job config inputs given notice = view_with job config inputs given ≡ notice ∷ view_of job config inputs

-- what is said of two runs holds of each two in whose configurations a job means the same
abbrev pub OfTwoRuns : ((job : Bytes) → (first second : Configuration) → (inputs others : List Input) → Type 0) → Type 0
OfTwoRuns says = (job : Bytes) (first second : Configuration) (inputs others : List Input) → IsUnique job first → MeanTheSame job first second
    → says job first second inputs others
