-- Warnings, and the line that is printed of each.
use Rattle.std.specs.Prelude.{Bool, if◌then◌else◌, List, [], ◌∷◌, ◌++◌, Option, None, Some, codes}
use Rattle.std.specs.Fmt.{decimal}
use Rattle.std.specs.Str.{bytes_eq}
use Rattle.up_value.specs.Values.{Bytes}
use Rattle.up_lint.specs.declared.sheet.Spot.{Spot}
use Rattle.up_lint.specs.declared.warning.Kind.{Kind}
use Rattle.up_lint.specs.declared.warning.Kind.TheVariants.{UnknownEvent, UnknownJob, NeverStarted, UnsetExport, CrashLoop, BlocksItself, StartCircle, NeverStopped}
use Rattle.up_lint.specs.declared.warning.Warning.{Warning}
use Rattle.up_lint.specs.Sheets.{path_of}

-- the name of a kind
abbrev pub name_of : Kind → Bytes
name_of UnknownEvent = codes "unknown-event"
name_of UnknownJob = codes "unknown-job"
name_of NeverStarted = codes "never-started"
name_of UnsetExport = codes "unset-export"
name_of CrashLoop = codes "crash-loop"
name_of BlocksItself = codes "blocks-itself"
name_of StartCircle = codes "start-circle"
name_of NeverStopped = codes "never-stopped"

-- all kinds
abbrev pub kinds : List Kind
kinds = UnknownEvent ∷ UnknownJob ∷ NeverStarted ∷ UnsetExport ∷ CrashLoop ∷ BlocksItself ∷ StartCircle ∷ NeverStopped ∷ []

-- the first of these kinds with this name
abbrev pub kind_in : Bytes → List Kind → Option Kind
kind_in name [] = None
kind_in name (kind ∷ kinds) = if bytes_eq name (name_of kind) then Some kind else kind_in name kinds

-- whether two kinds are the same
abbrev pub same_kind : Kind → Kind → Bool
same_kind kind other = bytes_eq (name_of kind) (name_of other)

-- what is said before the name of what is concerned
abbrev pub before_about : Kind → Bytes
before_about UnknownEvent = codes "nothing gives the event `"
before_about UnknownJob = codes "there is no job `"
before_about NeverStarted = codes "nothing starts the job `"
before_about UnsetExport = codes "nothing sets the variable `"
before_about CrashLoop = codes "nothing limits the respawns of the job `"
before_about BlocksItself = codes "the job waits for its own event `"
before_about StartCircle = codes "only jobs that wait for one another start the job `"
before_about NeverStopped = codes "no event that still comes stops the job `"

-- the warning of a job at one of its lines
abbrev pub warning_of : Bytes → Spot → Kind → Bytes → Warning
warning_of job spot kind about = record {
  path = path_of job spot.over;
  line = spot.line;
  kind = kind;
  about = about;
}

-- what stands before the text of a warning
unfoldable pub place_text : Warning → Bytes
place_text warning = warning.path ++ codes ":" ++ decimal warning.line ++ codes ": warning: "
    ++ name_of warning.kind ++ codes ": "

-- the line that is printed of a warning
unfoldable pub line_of : Warning → Bytes
line_of warning = place_text warning ++ before_about warning.kind ++ warning.about ++ codes "`\n"
