-- The jobs of a folder and the events that join them, as a graph for dot(1).
use Rattle.std.specs.Prelude.{ℕ, ◌+◌, if◌then◌else◌, List, [], ◌∷◌, ◌++◌, Option, None, Some, codes, ◌==◌}
use Rattle.std.specs.Fmt.{decimal}
use Rattle.std.specs.List.{flat_map}
use Rattle.up_conf.specs.declared.job.JobDef.{JobDef}
use Rattle.up_expr.specs.declared.expr.Leaf.{Leaf}
use Rattle.up_expr.specs.declared.expr.Test.{Test}
use Rattle.up_expr.specs.declared.expr.Test.TheVariants.{Place, Same, Differs}
use Rattle.up_expr.specs.Flat.{size}
use Rattle.up_expr.specs.Trees.{Tree, One, Both, Either}
use Rattle.up_expr.specs.JobEvents.{is_job_event, wanted_job}
use Rattle.up_model.specs.Values.{Bytes}

-- a byte of a text in quotes
unfoldable pub escaped : ℕ → Bytes
escaped byte = if byte == 34 then codes "\\\"" else (if byte == 92 then codes "\\\\" else byte ∷ [])

-- what an event's variable must be, as it stands in the file
abbrev pub test_text : Test → Bytes
test_text (Place value) = codes " " ++ flat_map escaped value
test_text (Same key value) = codes " " ++ key ++ codes "=" ++ flat_map escaped value
test_text (Differs key value) = codes " " ++ key ++ codes "!=" ++ flat_map escaped value

-- an event with its values
unfoldable pub leaf_text : Leaf → Bytes
leaf_text leaf = leaf.event ++ flat_map test_text leaf.values

-- from one node to another
unfoldable pub edge : Bytes → Bytes → Bytes → Bytes
edge from to looks = codes "  \"" ++ from ++ codes "\" -> \"" ++ to ++ codes "\"" ++ looks ++ codes ";\n"

-- a node
unfoldable pub node : Bytes → Bytes → Bytes → Bytes
node id label looks = codes "  \"" ++ id ++ codes "\" [label=\"" ++ label ++ codes "\"" ++ looks ++ codes "];\n"

-- a job makes its own events
abbrev pub made_by : Bytes → Option Bytes → Bytes
made_by id None = []
made_by id (Some job) = edge (codes "job " ++ flat_map escaped job) id (codes " [style=dotted]")

abbrev pub source : Bytes → Leaf → Bytes
source id leaf = if is_job_event leaf.event then made_by id (wanted_job leaf.values) else []

-- an event, and that it leads to a node
unfoldable pub leaf_lines : Leaf → Bytes → Bytes → Bytes
leaf_lines leaf to looks =
    let id = codes "event " ++ leaf_text leaf in
    node id (leaf_text leaf) (codes ", shape=ellipse") ++ source id leaf ++ edge id to looks

-- the name of the group whose node stands at this place of an expression
unfoldable pub group_id : Bytes → ℕ → Bytes
group_id owner place = owner ++ codes " " ++ decimal place

-- a group, and that it leads to a node
unfoldable pub group_lines : Bytes → Bytes → Bytes → Bytes → Bytes
group_lines id word to looks = node id word (codes ", shape=circle") ++ edge id to looks

-- an expression whose first node stands at this place, and that it leads to a node: a group stands after its two sides, which lead to it
abbrev pub tree_lines : Bytes → ℕ → Bytes → Bytes → Tree → Bytes
tree_lines owner first to looks (One leaf) = leaf_lines leaf to looks
tree_lines owner first to looks (Both left right) =
    let id = group_id owner (first + size left + size right) in
    group_lines id (codes "and") to looks
    ++ (tree_lines owner first id [] left ++ tree_lines owner (first + size left) id [] right)
tree_lines owner first to looks (Either left right) =
    let id = group_id owner (first + size left + size right) in
    group_lines id (codes "or") to looks
    ++ (tree_lines owner first id [] left ++ tree_lines owner (first + size left) id [] right)

-- the two sides of a group
abbrev pub side_lines : Bytes → ℕ → Bytes → Tree → Tree → Bytes
side_lines owner first id left right =
    tree_lines owner first id [] left ++ tree_lines owner (first + size left) id [] right

-- what starts or stops a job
abbrev pub condition_lines : Bytes → Bytes → Bytes → Option Tree → Bytes
condition_lines name words looks None = []
condition_lines name words looks (Some tree) =
    tree_lines (name ++ words) 0 (codes "job " ++ name) looks tree

-- the node of a job
abbrev pub job_node : Bytes → Bytes
job_node name = node (codes "job " ++ name) name (codes ", shape=box")

-- a job, and what starts and stops it
unfoldable pub job_lines : JobDef → Bytes
job_lines job = job_node job.name
    ++ condition_lines job.name (codes " start on") (codes " [label=\"start on\"]") job.start_on
    ++ condition_lines job.name (codes " stop on") (codes " [label=\"stop on\", style=dashed]") job.stop_on

-- all jobs
unfoldable pub graph_of : List JobDef → Bytes
graph_of jobs = codes "digraph jobs {\n  rankdir=LR;\n" ++ flat_map job_lines jobs ++ codes "}\n"
