use Rattle.std.proofs.Common.{◌≡◌, ◌≤◌, length, subst, rules}
use Rattle.std.specs.List.{All}
use Rattle.std.proofs.lemmas.List.Elements.{All-more}
use Rattle.std.proofs.lemmas.List.{take_all}
use Rattle.up_edge.proofs.child.place_of.Goals as goal

pub loop-place-preserved : goal.loop-place-preserved
loop-place-preserved g c =
    let another : c.index-children-place.result.who ≡ c.args.who.now → c.index-children-place.result.pid ≡ c.args.pid → ⊥ = λ same number.
    let is = c.is_named.ensures.differs same number in let differs = c.if-is_named.false in absurd cc
    in
    All-more (λ running. running.who ≡ c.args.who.now → running.pid ≡ c.args.pid → ⊥) c.args.children.now c.loop-place.place c.index-children-place.result (search rules) c.loop-place.invariant
    (subst (λ running. running.who ≡ c.args.who.now → running.pid ≡ c.args.pid → ⊥) c.index-children-place.is another)

pub returns-clause-none : goal.returns-clause-none
returns-clause-none g c = λ none.
    let all : length c.args.children.now ≤ c.loop-place.place = search rules in
    subst (λ children. All (λ running. running.who ≡ c.args.who.now → running.pid ≡ c.args.pid → ⊥) children) (take_all _ _ all) c.loop-place.invariant
