-- Names that are added after others.
use Rattle.std.proofs.Common.{◌≡◌, ℕ, ◌<◌, ◌+◌, List, [], ◌∷◌, ◌++◌, refl, sym, ap, ◌∙◌, length, drop, get_or}
use Rattle.std.specs.List.{flat_map}
use Rattle.std.specs.Str.{bytes_eq}
use Rattle.up_conf.specs.Jobs.{with_new_item}
use Rattle.up_expr.specs.declared.expr.Leaf.{Leaf}
use Rattle.up_expr.specs.declared.node.Node.{Node}
use Rattle.up_expr.specs.Flat.{leaves_in}
use Rattle.up_lint.specs.Names.{with_names}
use Rattle.up_lint.proofs.Gathered.{keys_more}
use Rattle.up_lint.proofs.Steps.{splits}

pub added_both : (names first others : List (List ℕ)) → with_names (with_names names first) others ≡ with_names names (first ++ others)
added_both names [] others = refl
added_both names (name ∷ first) others = added_both (with_new_item bytes_eq names name) first others

-- one item further
pub added_next : {X : Type 0} (f : X → List (List ℕ)) (items : List X) (i : ℕ) (item : X) (old new whole : List (List ℕ)) → i < length items → item ≡ get_or items i item
    → new ≡ with_names old (f item) → with_names old (flat_map f (drop i items)) ≡ whole → with_names new (flat_map f (drop (i + 1) items)) ≡ whole
added_next f items i item old new whole below is step goes =
    let rest = flat_map f (drop (i + 1) items) in
    ap (λ it. with_names it rest) step ∙ added_both old (f item) rest ∙ sym (ap (λ it. with_names old (flat_map f it)) (splits items i item below is)) ∙ goes

-- one node further
pub added_node : (keys : Leaf → List (List ℕ)) (nodes : List Node) (i : ℕ) (node : Node) (old new whole : List (List ℕ)) → i < length nodes → node ≡ get_or nodes i node
    → new ≡ with_names old (flat_map keys (leaves_in (node ∷ []))) → with_names old (flat_map keys (leaves_in (drop i nodes))) ≡ whole
    → with_names new (flat_map keys (leaves_in (drop (i + 1) nodes))) ≡ whole
added_node keys nodes i node old new whole below is step goes =
    let rest = flat_map keys (leaves_in (drop (i + 1) nodes)) in
    ap (λ it. with_names it rest) step ∙ added_both old (flat_map keys (leaves_in (node ∷ []))) rest
    ∙ sym (ap (with_names old) (keys_more keys node (drop (i + 1) nodes)))
    ∙ sym (ap (λ it. with_names old (flat_map keys (leaves_in it))) (splits nodes i node below is)) ∙ goes
