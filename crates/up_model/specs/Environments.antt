-- The environment of a job, and which instance a start by it concerns (init(5), "Job environment" and "instance").
use Rattle.std.specs.Prelude.{List, [], ◌∷◌, Option, None, Some}
use Rattle.up_conf.specs.declared.job.JobDef.{JobDef}
use Rattle.up_stanza.specs.declared.setting.Setting.{Setting}
use Rattle.up_text.specs.Bindings.{value_of, set_in}
use Rattle.up_text.specs.Expansion.{Expansion, Expands, Lacks, Malformed, expand}
use Rattle.up_model.specs.declared.who.Who.{Who}
use Rattle.up_model.specs.Chronicle.{Chronicle}
use Rattle.up_model.specs.Configuration.{Configuration, job_named}
use Rattle.up_model.specs.Files.{start_file}
use Rattle.up_model.specs.Values.{Bytes, Bindings}

-- the value that a setting gives its key: its own, or that of the base, if the base has one (init(5), "env")
abbrev pub setting_value : (base : Bindings) → (key : Bytes) → Option Bytes → Option Bytes
setting_value base key None = value_of key base
setting_value base key (Some value) = Some value

abbrev pub with_value : (key : Bytes) → Option Bytes → Bindings → Bindings
with_value key None environment = environment
with_value key (Some value) environment = set_in key value environment

-- each of the settings has its effect in turn
abbrev pub with_settings : (base : Bindings) → List Setting → Bindings → Bindings
with_settings base [] environment = environment
with_settings base (setting ∷ settings) environment =
    with_settings base settings (with_value setting.key
    (setting_value base setting.key setting.value) environment)

-- the environment of a job: the base, and what its file sets
abbrev pub job_env : (base : Bindings) → JobDef → Bindings
job_env base job = with_settings base job.env base

abbrev pub env_by_job : (base : Bindings) → Option JobDef → Bindings
env_by_job base None = base
env_by_job base (Some job) = job_env base job

-- the same by the job's name
abbrev pub env_of_job : Configuration → Bytes → Bindings
env_of_job config name = env_by_job config.base (job_named name config.jobs)

-- the environment of an instance's file, by which it starts: that is to which a start adds
abbrev pub start_base : Configuration → Who → Chronicle → Bindings
start_base config who c = env_by_job config.base (start_file config who c)

abbrev pub text_of : Expansion → Option Bytes
text_of (Expands text) = Some text
text_of (Lacks key) = None
text_of Malformed = None

-- the name of the instance that a start or a command concerns, by its environment: none if a key isn't set
abbrev pub instance_name : JobDef → Bindings → Option Bytes
instance_name job environment = text_of (expand job.instance environment)
