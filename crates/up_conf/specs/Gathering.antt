-- What stanzas make of a job, the keys apart, and where these are found.
use Rattle.std.specs.Prelude.{◌≡◌, ℕ, suc, if◌then◌else◌, List, [], ◌∷◌, Option, None, Some, option_copied, option_map, unwrap_or}
use Rattle.std.specs.BTreeMap.{BTreeMap, get_by}
use Rattle.std.specs.BTreeSet.{BTreeSet, contains_by}
use Rattle.std.specs.Cmp.Lexicographic.{slice_cmp}
use Rattle.std.specs.List.{list_any}
use Rattle.std.specs.Ordering.{nat_cmp}
use Rattle.std.specs.Str.{bytes_eq}
use Rattle.up_value.specs.Values.{Bytes}
use denote.Ref.{Bor}
use Rattle.up_conf.specs.declared.job.JobDef.{JobDef}
use Rattle.up_conf.specs.declared.outline.Outline.TheInside.{Inside}
use Rattle.up_stanza.specs.declared.setting.Setting.{Setting}
use Rattle.up_stanza.specs.declared.stanza.Stanza.{Stanza}
use Rattle.up_conf.specs.Jobs.{job_after}

-- the place of a key among settings
abbrev pub place_in : Bytes → List Setting → Option ℕ
place_in key [] = None
place_in key (setting ∷ settings) = if bytes_eq setting.key key then Some 0
    else option_map (λ place. suc place) (place_in key settings)

-- a map from keys to their places among settings
abbrev pub AreIndexed : BTreeMap (Bor Bytes) ℕ → List Setting → Type 0
AreIndexed places settings = (key : Bytes)
    → get_by (λ k. slice_cmp nat_cmp key k.now) places ≡ place_in key settings

-- a set of these keys
abbrev pub AreSeen : BTreeSet (Bor Bytes) → List Bytes → Type 0
AreSeen seen keys = (key : Bytes) → contains_by (λ k. slice_cmp nat_cmp key k.now) seen
    ≡ list_any (bytes_eq key) keys

-- what stanzas make of a job whose keys stay as they are
abbrev pub others_after : JobDef → List Stanza → JobDef
others_after job stanzas = record (job_after job stanzas) { env = job.env; export = job.export }

-- the job that an outline shows: without a name, and without keys
abbrev pub job_of_outline : Inside → JobDef
job_of_outline outline = record {
  name = [];
  task = outline.task;
  respawn = outline.respawn;
  silent = outline.silent;
  instance = unwrap_or (option_copied outline.instance) [];
  dir = unwrap_or (option_copied outline.dir) [];
  limit = outline.limit;
  kill_signal = outline.kill_signal;
  kill_timeout = outline.kill_timeout;
  reload_signal = outline.reload_signal;
  env = [];
  export = [];
  normal = outline.normal;
  main = option_copied outline.main;
  pre_start = option_copied outline.pre_start;
  post_start = option_copied outline.post_start;
  pre_stop = option_copied outline.pre_stop;
  post_stop = option_copied outline.post_stop;
  start_on = option_copied outline.start_on;
  stop_on = option_copied outline.stop_on;
}
