-- Which jobs no event stops, once their `start on` has started them.
use Rattle.std.specs.Prelude.{Bool, true, false, ◌||◌, ◌&&◌, not, if◌then◌else◌, Option, None, Some, codes}
use Rattle.std.specs.List.{list_any}
use Rattle.std.specs.Str.{bytes_eq}
use Rattle.up_conf.specs.declared.job.JobDef.{JobDef}
use Rattle.up_expr.specs.declared.expr.Leaf.{Leaf}
use Rattle.up_expr.specs.Trees.{Tree, One, Both, Either}
use Rattle.up_lint.specs.Circles.{job_may}
use Rattle.up_lint.specs.Events.{Scene}
use Rattle.up_expr.specs.JobEvents.{is_job_event, wanted_job}

-- whether an event may be handled after one by which a `start on` comes true: the init gives `startup` once, before all others, and a job
-- that isn't started makes none
abbrev pub may_follow : Scene → Leaf → Bool
may_follow scene leaf = if list_any (bytes_eq leaf.event) scene.given then true
    else (if is_job_event leaf.event then job_may scene.jobs scene.started (wanted_job leaf.values)
    else not (bytes_eq leaf.event (codes "startup")))

-- whether an expression may come true by such events
abbrev pub tree_follows : Scene → Tree → Bool
tree_follows scene (One leaf) = may_follow scene leaf
tree_follows scene (Both left right) = tree_follows scene left && tree_follows scene right
tree_follows scene (Either left right) = tree_follows scene left || tree_follows scene right

-- whether a job has both expressions, and its `stop on` can't come true after its `start on`
abbrev pub is_stopped_by_none : Scene → Option Tree → Option Tree → Bool
is_stopped_by_none scene None stop = false
is_stopped_by_none scene (Some start) None = false
is_stopped_by_none scene (Some start) (Some stop) = not (tree_follows scene stop)

-- the same of a job that can be started
abbrev pub is_never_stopped : Scene → JobDef → Bool
is_never_stopped scene job = list_any (bytes_eq job.name) scene.started
    && is_stopped_by_none scene job.start_on job.stop_on
