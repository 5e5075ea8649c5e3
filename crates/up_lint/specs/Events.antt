-- Which events come in a folder, and which jobs it has.
use Rattle.std.specs.Prelude.{Bool, true, false, ◌||◌, if◌then◌else◌, List, [], ◌∷◌, Option, None, Some, codes}
use Rattle.std.specs.List.{flat_map, list_any}
use Rattle.std.specs.Str.{bytes_eq}
use Rattle.up_value.specs.Values.{Bytes}
use Rattle.up_conf.specs.declared.folder.File.{File}
use Rattle.up_conf.specs.declared.job.JobDef.{JobDef}
use Rattle.up_expr.specs.JobEvents.{is_job_event}
use Rattle.up_conf.specs.Folders.{without_ending}
use Rattle.up_lint.specs.declared.head.Head.{Head}
use Rattle.up_lint.specs.declared.world.World.{World}
use Rattle.up_lint.specs.Sheets.{sheet_of}

-- what a job is looked at with: the names of the jobs of its folder, of those that commands of others start and of those that can be started
-- at all, the events that somebody gives besides the init, and the keys that stand in jobs
pub record Scene : Type 0 where
  pub jobs : List Bytes
  pub commanded : List Bytes
  pub started : List Bytes
  pub given : List Bytes
  pub keys : List Bytes

abbrev pub scene_of : World → Scene
scene_of world = record {
  jobs = world.jobs;
  commanded = world.commanded;
  started = world.started;
  given = world.given;
  keys = world.keys;
}

-- the events that a stanza of these words declares
abbrev pub declared_words : List Bytes → List Bytes
declared_words [] = []
declared_words (first ∷ others) = if bytes_eq first (codes "emits") then others else []

abbrev pub declared_by : Head → List Bytes
declared_by head = declared_words head.words

-- the events that a job declares
abbrev pub declared_of : List File → JobDef → List Bytes
declared_of files job = flat_map declared_by (sheet_of files job.name)

-- the events that jobs declare
abbrev pub declared_in : List File → List JobDef → List Bytes
declared_in files jobs = flat_map (declared_of files) jobs

-- whether something gives an event
unfoldable pub comes : Scene → Bytes → Bool
comes scene event = bytes_eq event (codes "startup") || is_job_event event || list_any (bytes_eq event) scene.given

-- whether the event of whose failure another tells comes
abbrev pub comes_failed : Scene → Option Bytes → Bool
comes_failed scene None = false
comes_failed scene (Some event) = comes scene event

-- whether an event may come
abbrev pub is_known : Scene → Bytes → Bool
is_known scene event = if comes scene event then true
    else comes_failed scene (without_ending (codes "/failed") event)
