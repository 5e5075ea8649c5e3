-- What warnings are about, node by node.
use Rattle.std.proofs.Common.{◌≡◌, ℕ, ◌+◌, ◌<◌, List, [], ◌∷◌, ◌++◌, Option, length, drop, get_or, refl, sym, ap, ◌∙◌, append-nil}
use Rattle.std.specs.List.{flat_map}
use Rattle.up_expr.specs.declared.expr.Leaf.{Leaf}
use Rattle.up_expr.specs.declared.node.Node.{Node}
use Rattle.up_expr.specs.declared.node.Node.TheVariants as node
use Rattle.up_expr.specs.Flat.{leaves_in}
use Rattle.up_lint.specs.Questions.{gathered}
use Rattle.up_lint.proofs.Steps.{splits}

pub node_more : (asks : Leaf → Option (List ℕ)) (names : List (List ℕ)) (first : Node) (nodes : List Node)
    → gathered asks (gathered asks names (leaves_in (first ∷ []))) (leaves_in nodes) ≡ gathered asks names (leaves_in (first ∷ nodes))
node_more asks names (node.Leaf leaf) nodes = refl
node_more asks names (node.And left right) nodes = refl
node_more asks names (node.Or left right) nodes = refl

-- one node further
pub node_next : (asks : Leaf → Option (List ℕ)) (nodes : List Node) (i : ℕ) (node : Node) (old new whole : List (List ℕ)) → i < length nodes → node ≡ get_or nodes i node
    → new ≡ gathered asks old (leaves_in (node ∷ [])) → gathered asks old (leaves_in (drop i nodes)) ≡ whole → gathered asks new (leaves_in (drop (i + 1) nodes)) ≡ whole
node_next asks nodes i node old new whole below is step goes =
    ap (λ it. gathered asks it (leaves_in (drop (i + 1) nodes))) step ∙ node_more asks old node (drop (i + 1) nodes)
    ∙ sym (ap (λ it. gathered asks old (leaves_in it)) (splits nodes i node below is)) ∙ goes

-- the keys of a node, and of those after it
pub keys_more : (keys : Leaf → List (List ℕ)) (first : Node) (nodes : List Node)
    → flat_map keys (leaves_in (first ∷ nodes)) ≡ flat_map keys (leaves_in (first ∷ [])) ++ flat_map keys (leaves_in nodes)
keys_more keys (node.Leaf leaf) nodes = ap (λ it. it ++ flat_map keys (leaves_in nodes)) (sym (append-nil (keys leaf)))
keys_more keys (node.And left right) nodes = refl
keys_more keys (node.Or left right) nodes = refl
