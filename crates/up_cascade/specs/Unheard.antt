-- Which jobs don't hear of an event.
use Rattle.std.specs.Prelude.{◌≡◌, ◌<◌, ◌≤◌, ℕ, Option, Some}
use Rattle.up_book.specs.Hearers.{IsDeaf}
use Rattle.up_book.specs.Keys.{job_at}
use Rattle.up_conf.specs.declared.job.JobDef.{JobDef}
use Rattle.up_model.specs.Chronicle.{Chronicle}
use Rattle.up_model.specs.Configuration.{Configuration}
use Rattle.up_model.specs.declared.event.Event.{Event}

-- none of the jobs of a table from an index on, up to another, has an expression in force that may match it
abbrev pub AreUnheard : Configuration → Option Event → Chronicle → (from to : ℕ) → Type 0
AreUnheard config event c from to = (n : ℕ) (job : JobDef) → from ≤ n → n < to → job_at config n ≡ Some job → IsDeaf job event c

-- no job hears of an event: no leaf of an expression in force names it, or the literal values of each that does rule it out
abbrev pub NoneHears : Configuration → Option Event → Chronicle → Type 0
NoneHears config event c = (n : ℕ) (job : JobDef) → job_at config n ≡ Some job → IsDeaf job event c
