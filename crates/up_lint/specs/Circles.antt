-- Which jobs can be started at all, where jobs wait for one another.
use Rattle.std.specs.Prelude.{ℕ, zero, suc, Bool, true, ◌||◌, ◌&&◌, not, if◌then◌else◌, List, [], ◌∷◌, length, Option, None, Some, codes}
use Rattle.std.specs.List.{list_any}
use Rattle.std.specs.Str.{bytes_eq}
use Rattle.up_value.specs.Values.{Bytes}
use Rattle.up_conf.specs.declared.job.JobDef.{JobDef}
use Rattle.up_conf.specs.Jobs.{with_new_item}
use Rattle.up_expr.specs.declared.expr.Leaf.{Leaf}
use Rattle.up_expr.specs.Trees.{Tree, One, Both, Either}
use Rattle.up_expr.specs.JobEvents.{wanted_job}

-- whether an event may come that a job makes, where these jobs start: of a job that the folder hasn't nothing is known
abbrev pub job_may : List Bytes → List Bytes → Option Bytes → Bool
job_may jobs started None = true
job_may jobs started (Some job) = not (list_any (bytes_eq job) jobs) || list_any (bytes_eq job) started

-- whether an event may come, where these jobs start
abbrev pub leaf_may : List Bytes → List Bytes → Leaf → Bool
leaf_may jobs started leaf =
    if bytes_eq leaf.event (codes "starting") || bytes_eq leaf.event (codes "started")
    then job_may jobs started (wanted_job leaf.values) else true

-- whether an expression may come true
abbrev pub tree_may : List Bytes → List Bytes → Tree → Bool
tree_may jobs started (One leaf) = leaf_may jobs started leaf
tree_may jobs started (Both left right) = tree_may jobs started left && tree_may jobs started right
tree_may jobs started (Either left right) = tree_may jobs started left || tree_may jobs started right

-- a job without an expression is started by hand
abbrev pub condition_may : List Bytes → List Bytes → Option Tree → Bool
condition_may jobs started None = true
condition_may jobs started (Some tree) = tree_may jobs started tree

-- whether a job may start, where these do: by hand, by a command or by events
abbrev pub may_start : (names commanded started : List Bytes) → JobDef → Bool
may_start names commanded started job = condition_may names started job.start_on || list_any (bytes_eq job.name) commanded

-- the jobs that start, with this one if it may
abbrev pub with_started : (names commanded started : List Bytes) → JobDef → List Bytes
with_started names commanded started job =
    if may_start names commanded started job then with_new_item bytes_eq started job.name else started

-- the same of one job after another
abbrev pub started_after : (names commanded started : List Bytes) → List JobDef → List Bytes
started_after names commanded started [] = started
started_after names commanded started (job ∷ others) =
    started_after names commanded (with_started names commanded started job) others

-- so many rounds over all jobs
abbrev pub rounds : ℕ → (names commanded : List Bytes) → List JobDef → List Bytes → List Bytes
rounds zero names commanded jobs started = started
rounds (suc n) names commanded jobs started = rounds n names commanded jobs (started_after names commanded started jobs)

-- the jobs that start, of which these are the names and those that commands of others start: each round but the last finds one
unfoldable pub started_in : (names commanded : List Bytes) → List JobDef → List Bytes
started_in names commanded jobs = rounds (length jobs) names commanded jobs []
