-- Which events an expression can't match, whatever its values expand to: those that none of its leaves names, and those whose variables
-- aren't the literal values of its leaves.
use Rattle.std.specs.Prelude.{ℕ, ◌==◌, Bool, true, false, not, ◌&&◌, ◌||◌, List, [], ◌∷◌, Option, None, Some, option_and_then, slice_get, if◌then◌else◌}
use Rattle.std.specs.List.{list_all}
use Rattle.std.specs.Str.{bytes_eq}
use Rattle.up_conf.specs.declared.job.JobDef.{JobDef}
use Rattle.up_expr.specs.declared.expr.Leaf.{Leaf}
use Rattle.up_expr.specs.declared.expr.Test.{Test}
use Rattle.up_expr.specs.declared.expr.Test.TheVariants as test
use Rattle.up_expr.specs.declared.node.Node.{Node}
use Rattle.up_expr.specs.declared.node.Node.TheVariants as node
use Rattle.up_expr.specs.Flat.{nodes_of}
use Rattle.up_expr.specs.Matching.{nth_value, next_place}
use Rattle.up_expr.specs.Trees.{Tree, One, Both, Either}
use Rattle.up_image.specs.declared.index.Place.{Place}
use Rattle.up_model.specs.declared.event.Event.{Event}
use Rattle.up_pattern.specs.Matching.{is_wild}
use Rattle.up_text.specs.Bindings.{value_of}
use Rattle.up_value.specs.Values.{Bytes, Bindings}
use Rattle.up_marks.specs.Naming.{side_of}

-- a byte that neither an expansion nor a pattern reads as anything but itself
abbrev pub is_literal_byte : ℕ → Bool
is_literal_byte byte = not (byte == 36) && not (is_wild byte)

abbrev pub is_literal : Bytes → Bool
is_literal text = list_all is_literal_byte text

-- whether a variable can't have a value: there is none, or the value is a literal and another
abbrev pub is_another : Bytes → Option Bytes → Bool
is_another value None = true
is_another value (Some found) = not (bytes_eq value found) && is_literal value

-- whether the test at a place fails in any environment
abbrev pub fails : Bindings → ℕ → Test → Bool
fails vars k (test.Place value) = is_another value (nth_value k vars)
fails vars k (test.Same key value) = is_another value (value_of key vars)
fails vars k (test.Differs key value) = false

-- whether one of these tests does, where the first positional one stands at place k
abbrev pub one_fails : Bindings → ℕ → List Test → Bool
one_fails vars k [] = false
one_fails vars k (its ∷ tests) = if fails vars k its then true else one_fails vars (next_place k its) tests

-- whether a leaf matches an event in no environment
abbrev pub rules_out : Leaf → Bytes → Bindings → Bool
rules_out leaf name vars = if bytes_eq name leaf.event then one_fails vars 0 leaf.values else true

-- whether a leaf of a tree may match an event
abbrev pub may_match : Tree → Bytes → Bindings → Bool
may_match (One leaf) name vars = not (rules_out leaf name vars)
may_match (Both left right) name vars = may_match left name vars || may_match right name vars
may_match (Either left right) name vars = may_match left name vars || may_match right name vars

-- the same of an expression that a job file may not have
abbrev pub may_match_in : Option Tree → Bytes → Bindings → Bool
may_match_in None name vars = false
may_match_in (Some tree) name vars = may_match tree name vars

-- and of an event that there may be
abbrev pub may_hear : Option Tree → Option Event → Bool
may_hear condition None = false
may_hear condition (Some event) = may_match_in condition event.name event.vars

-- the leaf at a place of a table
abbrev pub nodes_in : Option Tree → List Node
nodes_in None = []
nodes_in (Some tree) = nodes_of 0 tree

abbrev pub leaf_of : Node → Option Leaf
leaf_of (node.Leaf leaf) = Some leaf
leaf_of (node.And left right) = None
leaf_of (node.Or left right) = None

abbrev pub leaf_in : Option Tree → ℕ → Option Leaf
leaf_in condition at = option_and_then leaf_of (slice_get (nodes_in condition) at)

abbrev pub leaf_at : List JobDef → Place → Option Leaf
leaf_at jobs place = option_and_then (λ job. leaf_in (side_of place.start job) place.node) (slice_get jobs place.job)

-- whether it may match an event
abbrev pub admits_by : Event → Option Leaf → Bool
admits_by event None = false
admits_by event (Some leaf) = not (rules_out leaf event.name event.vars)

abbrev pub admits : List JobDef → Event → Place → Bool
admits jobs event place = admits_by event (leaf_at jobs place)
