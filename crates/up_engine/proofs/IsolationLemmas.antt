-- What a job does in the runs of compiled folders, and in the steps of engines.
use Rattle.std.proofs.Common.{◌≡◌, ◌≤◌, false, List, [], Bool, Ok, length, sym, ◌∙◌, ap, subst}
use Rattle.up_conf.specs.declared.folder.File.{File}
use Rattle.up_conf.specs.declared.job.JobDef.{JobDef}
use Rattle.up_conf.specs.declared.report.Fault.{Fault}
use Rattle.up_engine.specs.declared.engine.Engine.{Engine}
use Rattle.up_engine.specs.declared.run.Run.{Run}
use Rattle.up_engine.specs.Stands.{RunMeans, StepsMean}
use Rattle.up_engine.proofs.FolderLemmas.{one-named}
use Rattle.up_image.specs.Compiling.{Compiles}
use Rattle.up_isolation.specs.Isolation.{IsUnique, MeanTheSame}
use Rattle.up_isolation.specs.Steps.{AreStepsOf, deeds_by_step, joined, orders_of, outputs_in}
use Rattle.up_isolation.specs.Views.{deeds, jobs_called, view}
use Rattle.up_isolation.proofs.Orders.{orders-run}
use Rattle.up_isolation.proofs.Runs.{law-isolation}
use Rattle.up_isolation.proofs.Stepping.{deeds-run, steps-of}
use Rattle.up_model.specs.declared.input.Input.{Input}
use Rattle.up_model.specs.declared.step.Step.{Step}
use Rattle.up_model.specs.Answers.{after_all, answers}
use Rattle.up_model.specs.Configuration.{Configuration}
use Rattle.up_model.specs.Values.{Bytes}

-- a compiled folder has at most one job of a name
is-unique : (files : List File) (config : Configuration) (report : List Fault) (job : Bytes)
    → Compiles files config.jobs report → IsUnique job config
is-unique files config report job compiled =
    subst (λ (jobs : List JobDef). length (jobs_called job jobs) ≤ 1) (sym compiled.jobs) (one-named job files compiled.apart)

pub isolated : (files others : List File) (first second : Configuration) (report told : List Fault) (job : Bytes)
    (inputs given : List Input)
    → Compiles files first.jobs report → Compiles others second.jobs told → MeanTheSame job first second
    → view job first (after_all first [] inputs) ≡ view job second (after_all second [] given)
    → deeds job (after_all first [] inputs) ≡ deeds job (after_all second [] given)
isolated files others first second report told job inputs given compiled also same views =
    law-isolation job first second inputs given (is-unique files first report job compiled) same views

-- equal deeds are equal step by step, joined
pub joined-same : (job : Bytes) (first second : Configuration) (inputs given : List Input)
    → deeds job (after_all first [] inputs) ≡ deeds job (after_all second [] given)
    → joined (deeds_by_step job first [] inputs) ≡ joined (deeds_by_step job second [] given)
joined-same job first second inputs given same =
    deeds-run job first inputs ∙ same ∙ sym (deeds-run job second given)

-- the steps of a run that didn't run out of memory are the answers
run-answers : (run : Run) (engine : Engine) (config : Configuration) (inputs : List Input)
    → RunMeans (Ok run) engine config [] inputs → run.down ≡ false → run.steps ≡ answers config [] inputs
run-answers run engine config inputs means up =
    (subst (λ (b : Bool). StepsMean b run.steps engine config [] inputs) up means).0

-- so what a job does in each step is of the run's step
pub run-deeds : (job : Bytes) (run : Run) (engine : Engine) (config : Configuration) (inputs : List Input)
    → RunMeans (Ok run) engine config [] inputs → run.down ≡ false
    → AreStepsOf (deeds_by_step job config [] inputs) run.steps
run-deeds job run engine config inputs means up =
    subst (λ (its : List Step). AreStepsOf (deeds_by_step job config [] inputs) its)
    (sym (run-answers run engine config inputs means up)) (steps-of job config [] inputs)

-- and the starts and signals that name it are those that it does
pub run-orders : (job : Bytes) (run : Run) (engine : Engine) (config : Configuration) (inputs : List Input)
    → RunMeans (Ok run) engine config [] inputs → run.down ≡ false
    → orders_of job (outputs_in run.steps) ≡ orders_of job (joined (deeds_by_step job config [] inputs))
run-orders job run engine config inputs means up =
    ap (λ (its : List Step). orders_of job (outputs_in its)) (run-answers run engine config inputs means up)
    ∙ orders-run job config [] inputs
