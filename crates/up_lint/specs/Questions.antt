-- What is asked of each event that an expression waits for.
use Rattle.std.specs.Prelude.{ℕ, Bool, false, ◌||◌, ◌&&◌, ◌==◌, if◌then◌else◌, List, [], ◌∷◌, map, Option, None, Some, codes}
use Rattle.std.specs.List.{list_any}
use Rattle.std.specs.Str.{bytes_eq}
use Rattle.up_value.specs.Values.{Bytes}
use Rattle.up_conf.specs.Jobs.{with_new_item}
use Rattle.up_expr.specs.declared.expr.Leaf.{Leaf}
use Rattle.up_expr.specs.declared.expr.Test.{Test}
use Rattle.up_expr.specs.Flat.{leaves_of}
use Rattle.up_expr.specs.Trees.{Tree}
use Rattle.up_lint.specs.declared.head.Head.{Head}
use Rattle.up_lint.specs.declared.question.Question.{Question}
use Rattle.up_lint.specs.declared.question.Question.TheVariants as question
use Rattle.up_lint.specs.declared.question.Side.{Side}
use Rattle.up_lint.specs.declared.question.Side.TheVariants.{Start, Stop}
use Rattle.up_lint.specs.declared.warning.Kind.{Kind}
use Rattle.up_lint.specs.declared.warning.Kind.TheVariants as kind
use Rattle.up_lint.specs.declared.warning.Warning.{Warning}
use Rattle.up_lint.specs.Events.{Scene, is_known}
use Rattle.up_expr.specs.JobEvents.{is_job_event, wanted_job}
use Rattle.up_lint.specs.Sheets.{spot_of}
use Rattle.up_lint.specs.Warnings.{warning_of}

-- an event that nothing gives
abbrev pub unknown_event : Scene → Leaf → Option Bytes
unknown_event scene leaf = if is_known scene leaf.event then None else Some leaf.event

-- a byte by which a value may stand for more than itself
unfoldable pub is_special : ℕ → Bool
is_special byte = list_any (λ other. other == byte) (codes "*?[\\$")

-- a job that isn't there, if this is the name of one
abbrev pub missing_job : Scene → Option Bytes → Option Bytes
missing_job scene None = None
missing_job scene (Some job) =
    if list_any is_special job || list_any (bytes_eq job) scene.jobs then None else Some job

-- the job of whose event an expression waits, if it isn't there
abbrev pub unknown_job : Scene → Leaf → Option Bytes
unknown_job scene leaf = if is_job_event leaf.event then missing_job scene (wanted_job leaf.values) else None

-- the job, if nothing but it is asked for
abbrev pub job_alone : List Test → Option Bytes
job_alone [] = None
job_alone (test ∷ []) = wanted_job (test ∷ [])
job_alone (test ∷ second ∷ others) = None

abbrev pub is_this : Bytes → Option Bytes → Bool
is_this job None = false
is_this job (Some other) = bytes_eq other job

-- an event of a job for which it can't wait itself: it goes on from `starting` and `stopping` only when these have finished, and isn't
-- started before it is
abbrev pub is_in_vain : Side → Bytes → Bool
is_in_vain Start event = bytes_eq event (codes "starting") || bytes_eq event (codes "started")
    || bytes_eq event (codes "stopping")
is_in_vain Stop event = bytes_eq event (codes "starting") || bytes_eq event (codes "stopping")

-- an event of the job itself for which it can't wait
abbrev pub own_event : Bytes → Side → Leaf → Option Bytes
own_event job side leaf =
    if is_in_vain side leaf.event && is_this job (job_alone leaf.values) then Some leaf.event else None

-- what a warning is about, if there is one, of an event for which this job waits
abbrev pub about : Scene → Bytes → Question → Side → Leaf → Option Bytes
about scene job question.UnknownEvent side leaf = unknown_event scene leaf
about scene job question.UnknownJob side leaf = unknown_job scene leaf
about scene job question.BlocksItself side leaf = own_event job side leaf

-- a name that isn't there yet goes last
abbrev pub with_about : List Bytes → Option Bytes → List Bytes
with_about names None = names
with_about names (Some name) = with_new_item bytes_eq names name

-- what warnings are about, each name once
abbrev pub gathered : (Leaf → Option Bytes) → List Bytes → List Leaf → List Bytes
gathered asks names [] = names
gathered asks names (leaf ∷ leaves) = gathered asks (with_about names (asks leaf)) leaves

-- the first word of the stanza
abbrev pub word_of : Side → Bytes
word_of Start = codes "start"
word_of Stop = codes "stop"

abbrev pub kind_of : Question → Kind
kind_of question.UnknownEvent = kind.UnknownEvent
kind_of question.UnknownJob = kind.UnknownJob
kind_of question.BlocksItself = kind.BlocksItself

-- the warnings of a job's expression
abbrev pub condition_warnings : Scene → Bytes → List Head → Question → Side → Option Tree → List Warning
condition_warnings scene job sheet question side None = []
condition_warnings scene job sheet question side (Some tree) =
    map (warning_of job (spot_of (word_of side) (codes "on") sheet) (kind_of question))
    (gathered (about scene job question side) [] (leaves_of tree))
