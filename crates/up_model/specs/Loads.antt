-- Which jobs are in force, and what a load does (initctl(8), "reload-configuration").
use Rattle.std.specs.Prelude.{ℕ, Bool, true, false, not, ◌&&◌, List, [], ◌∷◌, ◌++◌, filter, map, None, is_some, codes}
use Rattle.std.specs.Fmt.{decimal}
use Rattle.up_conf.specs.declared.job.JobDef.{JobDef}
use Rattle.up_conf.specs.Order.{in_order}
use Rattle.up_model.specs.declared.input.Input.{Input}
use Rattle.up_model.specs.declared.input.Input.TheVariants as input
use Rattle.up_model.specs.declared.loaded.Loaded.{Loaded as LoadedValue}
use Rattle.up_model.specs.declared.loaded.Loaded.TheVariants as loaded
use Rattle.up_model.specs.Chronicle.{Chronicle, Entry, Loaded, Replied}
use Rattle.up_model.specs.Configuration.{Configuration, job_named}
use Rattle.up_model.specs.Files.{job_names}
use Rattle.up_model.specs.Instances.{instances_of}
use Rattle.up_model.specs.Values.{Bytes}
use Rattle.up_text.specs.Scripts.{is_filled}

-- whether a job goes on that new ones don't have: while it has an instance
abbrev pub goes_on : (new : List JobDef) → Chronicle → JobDef → Bool
goes_on new c job = not (is_some (job_named job.name new)) && is_filled (instances_of job.name c)

-- a job that no event starts any more
abbrev pub without_start : JobDef → JobDef
without_start job = record job { start_on = None }

-- those of the jobs before that go on
abbrev pub going_on : (new old : List JobDef) → Chronicle → List JobDef
going_on new old c = map without_start (filter (goes_on new c) old)

-- the configuration with these jobs in force
abbrev pub with_jobs : (new : List JobDef) → Configuration → Chronicle → Configuration
with_jobs new config c = record {
  base = config.base;
  jobs = in_order (λ job. job.name) (new ++ going_on new config.jobs c);
  removed =
      job_names (going_on new config.jobs c);
}

-- the configuration in force, which is that of the start until a load
abbrev pub in_force : (start : Configuration) → Chronicle → Configuration
in_force start [] = start
in_force start (Loaded jobs ∷ c) = with_jobs jobs (in_force start c) c
in_force start (entry ∷ c) = in_force start c

-- whether an input is a load
abbrev pub is_load : Input → Bool
is_load (input.Load id loaded) = true
is_load given = false

-- a load that isn't carried out is answered so
abbrev pub not_loaded : (given : ℕ) → (text : Bytes) → List Entry
not_loaded given text = Replied given (record { ok = false; text = text }) ∷ []

-- a load that was given at a place: jobs that were read come into force, and the client is answered
abbrev pub loading : (given : ℕ) → LoadedValue → List Entry
loading given (loaded.Files jobs) = Replied given (record { ok = true; text = [] }) ∷ Loaded jobs ∷ []
loading given (loaded.Refused number) = not_loaded given (codes "Configuration refused: " ++ decimal number)
loading given loaded.Unread = not_loaded given (codes "Configuration not read")
