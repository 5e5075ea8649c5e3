-- The warnings of a folder.
use Rattle.std.specs.Prelude.{Bool, false, ◌||◌, ◌&&◌, ◌==◌, not, is_none, if◌then◌else◌, List, [], ◌∷◌, ◌++◌, codes}
use Rattle.std.specs.List.{flat_map, list_any}
use Rattle.std.specs.Str.{bytes_eq}
use Rattle.up_value.specs.Values.{Bytes}
use Rattle.up_conf.specs.declared.folder.File.{File}
use Rattle.up_conf.specs.declared.job.JobDef.{JobDef}
use Rattle.up_conf.specs.Order.{in_order}
use Rattle.up_lint.specs.declared.head.Head.{Head}
use Rattle.up_lint.specs.declared.question.Question.{Question}
use Rattle.up_lint.specs.declared.question.Question.TheVariants as question
use Rattle.up_lint.specs.declared.question.Side.TheVariants.{Start, Stop}
use Rattle.up_lint.specs.declared.warning.Kind.{Kind}
use Rattle.up_lint.specs.declared.warning.Kind.TheVariants.{NeverStarted, UnsetExport, CrashLoop, StartCircle, NeverStopped}
use Rattle.up_lint.specs.declared.warning.Warning.{Warning}
use Rattle.up_lint.specs.Circles.{started_in}
use Rattle.up_lint.specs.Commands.{names_by}
use Rattle.up_lint.specs.Events.{Scene, declared_in}
use Rattle.up_lint.specs.Exports.{is_unset, job_keys}
use Rattle.up_lint.specs.Names.{with_names}
use Rattle.up_lint.specs.Questions.{condition_warnings}
use Rattle.up_lint.specs.Sheets.{is_manual, sheet_of, spot_of}
use Rattle.up_lint.specs.Stops.{is_never_stopped}
use Rattle.up_lint.specs.Warnings.{line_of, same_kind, warning_of}

-- what is asked of the events of both expressions of a job
abbrev pub event_warnings : Scene → Question → JobDef → List Head → List Warning
event_warnings scene question job sheet =
    condition_warnings scene job.name sheet question Start job.start_on
    ++ condition_warnings scene job.name sheet question Stop job.stop_on

-- whether nothing starts a job, and it isn't said that somebody does
abbrev pub is_never_started : (commanded : List Bytes) → JobDef → List Head → Bool
is_never_started commanded job sheet =
    is_none job.start_on && not (is_manual sheet) && not (list_any (bytes_eq job.name) commanded)

abbrev pub start_warnings : (commanded : List Bytes) → JobDef → List Head → List Warning
start_warnings commanded job sheet = if is_never_started commanded job sheet
    then warning_of job.name (record { over = false; line = 1 }) NeverStarted job.name ∷ [] else []

-- the warning of a variable that a job exports
abbrev pub export_warning : (keys : List Bytes) → Bytes → List Head → Bytes → List Warning
export_warning keys job sheet key = if is_unset keys key
    then warning_of job (spot_of (codes "export") key sheet) UnsetExport key ∷ [] else []

abbrev pub export_warnings : (keys : List Bytes) → JobDef → List Head → List Warning
export_warnings keys job sheet = flat_map (export_warning keys job.name sheet) job.export

-- whether a job is respawned without a limit
abbrev pub is_crash_loop : JobDef → Bool
is_crash_loop job = job.respawn && (job.limit.count == 0 || job.limit.interval == 0)

abbrev pub respawn_warnings : JobDef → List Head → List Warning
respawn_warnings job sheet = if is_crash_loop job
    then warning_of job.name (spot_of (codes "respawn") (codes "limit") sheet) CrashLoop job.name ∷ [] else []

-- the warning of a job that isn't among those that can be started
abbrev pub circle_warnings : List Bytes → JobDef → List Head → List Warning
circle_warnings started job sheet = if list_any (bytes_eq job.name) started then []
    else warning_of job.name (spot_of (codes "start") (codes "on") sheet) StartCircle job.name ∷ []

-- the warning of a job that no event stops
abbrev pub stop_warnings : Scene → JobDef → List Head → List Warning
stop_warnings scene job sheet = if is_never_stopped scene job
    then warning_of job.name (spot_of (codes "stop") (codes "on") sheet) NeverStopped job.name ∷ [] else []

-- the warnings of a job that never comes up, or never goes down
abbrev pub life_warnings : Scene → JobDef → List Head → List Warning
life_warnings scene job sheet = circle_warnings scene.started job sheet ++ stop_warnings scene job sheet

-- the warnings of a job, by its stanzas
unfoldable pub sheet_warnings : Scene → JobDef → List Head → List Warning
sheet_warnings scene job sheet =
    event_warnings scene question.UnknownEvent job sheet ++ event_warnings scene question.UnknownJob job sheet
    ++ start_warnings scene.commanded job sheet ++ export_warnings scene.keys job sheet
    ++ respawn_warnings job sheet ++ event_warnings scene question.BlocksItself job sheet
    ++ life_warnings scene job sheet

-- the warnings of a job
abbrev pub job_warnings : Scene → List File → JobDef → List Warning
job_warnings scene files job = sheet_warnings scene job (sheet_of files job.name)

-- warnings in byte order of paths, those of a file in the order of lines, and those of a line as they come
abbrev pub ordered : List Warning → List Warning
ordered warnings = in_order (λ warning. warning.path) (in_order (λ warning. warning.line ∷ []) warnings)

-- the line of a warning, unless its kind is left out
abbrev pub line_unless : List Kind → Warning → Bytes
line_unless left_out warning = if list_any (same_kind warning.kind) left_out then [] else line_of warning

abbrev pub name_in : JobDef → List Bytes
name_in job = job.name ∷ []

-- the jobs that a job's commands start, but for itself
abbrev pub starts_of : JobDef → List Bytes
starts_of job = names_by (codes "start") job.name job

-- the events that a job's commands emit: none has an empty name
abbrev pub emits_of : JobDef → List Bytes
emits_of job = names_by (codes "emit") [] job

-- what a folder is looked at with
abbrev pub scene_in : (jobs : List JobDef) → (outside declared : List Bytes) → Scene
scene_in jobs outside declared =
    let names = with_names [] (flat_map name_in jobs) in
    let commanded = with_names [] (flat_map starts_of jobs) in
    record {
      jobs = names;
      commanded = commanded;
      started = started_in names commanded jobs;
      given = with_names [] (outside ++ (declared ++ flat_map emits_of jobs));
      keys = with_names [] (flat_map job_keys jobs);
    }

-- the lines of all warnings of these jobs, which files of a folder define, but of the kinds that are left out, if these events come from
-- outside, and the jobs declare these
unfoldable pub lint_by : List File → List JobDef → List Kind → (outside declared : List Bytes) → Bytes
lint_by files jobs left_out outside declared =
    flat_map (line_unless left_out)
    (ordered (flat_map (job_warnings (scene_in jobs outside declared) files) jobs))

-- the same, with the events that the jobs declare
unfoldable pub lint_of : List File → List JobDef → List Kind → List Bytes → Bytes
lint_of files jobs left_out outside = lint_by files jobs left_out outside (declared_in files jobs)
