-- Runs of compiled folders that mean the same by a job.
use Rattle.std.specs.Prelude.{◌≡◌, List}
use Rattle.up_conf.specs.declared.folder.File.{File}
use Rattle.up_conf.specs.declared.report.Fault.{Fault}
use Rattle.up_image.specs.Compiling.{Compiles}
use Rattle.up_isolation.specs.Isolation.{MeanTheSame}
use Rattle.up_isolation.specs.Runs.{view_of}
use Rattle.up_model.specs.declared.input.Input.{Input}
use Rattle.up_model.specs.Configuration.{Configuration}
use Rattle.up_model.specs.Values.{Bytes}

-- what is said of two runs holds of each two of compiled folders in which a job means the same, if the same comes to its notice in both
abbrev pub OfAlikeRuns : ((job : Bytes) → (first second : Configuration) → (inputs given : List Input) → Type 0) → Type 0
OfAlikeRuns says = (files others : List File) (first second : Configuration) (report told : List Fault) (job : Bytes) (inputs given : List Input)
    → Compiles files first.jobs report → Compiles others second.jobs told → MeanTheSame job first second
    → view_of job first inputs ≡ view_of job second given → says job first second inputs given
