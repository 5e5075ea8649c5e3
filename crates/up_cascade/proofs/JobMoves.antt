-- Moves and what is due job by job, as the engine goes through the table.
use Rattle.std.proofs.Common.{◌≡◌, List, [], ◌∷◌, refl, ap, ap₂}
use Rattle.up_conf.specs.declared.job.JobDef.{JobDef}
use Rattle.up_model.specs.Chronicle.{Chronicle, Entry}
use Rattle.up_model.specs.Configuration.{Configuration}
use Rattle.up_model.specs.Due.{due}
use Rattle.up_model.specs.Files.{job_names}
use Rattle.up_model.specs.Instances.{instances_of}
use Rattle.up_model.specs.Moves.{move_in}
use Rattle.up_model.specs.Moves as model
use Rattle.up_model.specs.Offers.{offering}
use Rattle.up_model.specs.Predicates.{or_else}
use Rattle.up_model.specs.Replies.{answering_last}
use Rattle.up_model.proofs.JobOffers.{offer_next, next-by-jobs}

-- the move of the first instance, job by job, that may
abbrev pub move_first : List JobDef → Chronicle → List Entry
move_first [] c = []
move_first (job ∷ jobs) c = or_else (move_in (instances_of job.name c) c) (move_first jobs c)

-- it is the model's
job-by-job : (jobs : List JobDef) (c : Chronicle) → model.move_first (job_names jobs) c ≡ move_first jobs c
job-by-job [] c = refl
job-by-job (job ∷ jobs) c = ap (or_else (move_in (instances_of job.name c) c)) (job-by-job jobs c)

-- so what is due begins with it
pub due-by : (config : Configuration) (c : Chronicle) → due config c ≡ or_else (move_first config.jobs c) (or_else (offer_next config (offering c) c) (answering_last c))
unfolding due
due-by config c = ap₂ (λ moves offers. or_else moves (or_else offers (answering_last c))) (job-by-job config.jobs c) (next-by-jobs config (offering c) c)
