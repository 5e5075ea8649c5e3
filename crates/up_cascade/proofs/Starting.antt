-- The environment by which an instance starts.
use Rattle.std.proofs.Common.{◌≡◌, ℕ, None, Some, List, Ok, inl, inr, sym, ◌∙◌, ap}
use Rattle.up_conf.specs.declared.job.JobDef.{JobDef}
use Rattle.up_model.specs.Chronicle.{Chronicle}
use Rattle.up_model.specs.Commands.{Concerns, target_as}
use Rattle.up_model.specs.Configuration.{Configuration}
use Rattle.up_model.specs.Environments.{env_by_job, env_of_job, start_base, instance_name}
use Rattle.up_model.specs.Events.{events_at, events_env}
use Rattle.up_model.specs.Files.{start_file_at}
use Rattle.up_model.specs.Instances.{instance_named}
use Rattle.up_model.specs.Offers.{start_by, start_env, start_who, who_called}
use Rattle.up_model.specs.Readings.{file_of}
use Rattle.up_model.specs.Values.{Bytes, Bindings}
use Rattle.up_model.specs.declared.who.Who.{Who}
use Rattle.up_text.specs.Bindings.{set_all}
use Rattle.up_text.specs.declared.expansion.Expanded.TheVariants as expanded
use Rattle.up_text.specs.Expanding.{Gives}
use Rattle.up_text.specs.Expansion.{Expansion, Expands, Lacks, Malformed}

-- one that exists goes by its own file
pub base-own : (config : Configuration) (who : Who) (c : Chronicle) (i : ℕ) → instance_named who c ≡ Some i → start_base config who c ≡ env_by_job config.base (file_of i c)
base-own config who c i found = ap (λ o. env_by_job config.base (start_file_at config who o c)) found

-- and a new one by that of its job
pub base-new : (config : Configuration) (who : Who) (c : Chronicle) → instance_named who c ≡ None → start_base config who c ≡ env_of_job config who.job
base-new config who c none = ap (λ o. env_by_job config.base (start_file_at config who o c)) none

-- a start by events of an instance whose name expands
pub start_by-called : (config : Configuration) (job : JobDef) (events : List ℕ) (c : Chronicle) (name : Bytes) (environment : Bindings)
    → instance_name job (events_env (env_of_job config job.name) (events_at events c)) ≡ Some name
    → environment ≡ start_env config (who_called job.name (Some name)) (events_at events c) c
    → start_who job environment events (who_called job.name (Some name)) c ≡ start_by config job events c
start_by-called config job events c name environment expands is =
    ap (λ e. start_who job e events (who_called job.name (Some name)) c) is
    ∙ ap (λ o. start_who job (start_env config (who_called job.name o) (events_at events c) c) events (who_called job.name o) c) (sym expands)

-- whom a request names whose text was expanded
pub gives_target : (config : Configuration) (job : JobDef) (vars : Bindings) (c : Chronicle) (environment : Bindings) (who : Who) (e : Expansion) (name : Bytes) → Gives e (Ok (expanded.Text name))
    → who ≡ record { job = job.name; instance = name } → environment ≡ set_all (start_base config (record { job = job.name; instance = name }) c) vars
    → Concerns job who environment ≡ target_as config job vars e c
gives_target config job vars c environment who (Expands text) name (inl is) same started = cc
gives_target config job vars c environment who (Expands text) name (inr is) same started = absurd cc
gives_target config job vars c environment who (Lacks key) name (inl is) same started = absurd cc
gives_target config job vars c environment who (Lacks key) name (inr is) same started = absurd cc
gives_target config job vars c environment who Malformed name is same started = absurd cc
