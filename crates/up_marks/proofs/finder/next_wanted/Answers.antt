use Rattle.std.proofs.Common.{◌≡◌, ◌+◌, [], Some, sym, subst, take, arith}
use Rattle.std.proofs.lemmas.Grind.{common_steps}
use Rattle.up_marks.specs.Finding.{IsLeastFrom, has_wanted}
use Rattle.up_marks.specs.Ruling.{admits}
use Rattle.up_marks.proofs.Finding.{least-again, least-first, least-more}
use Rattle.up_marks.proofs.finder.next_wanted.Goals as goal

pub loop-i-preserved : goal.loop-i-preserved
loop-i-preserved c =
    let test = admits c.args.jobs.now c.args.event.now in
    let name = c.args.event.now.name in
    let vars = c.args.event.now.vars in
    let leaves = c.args.leaves.now in
    subst (IsLeastFrom (has_wanted test name (take (c.loop-i.i + 1) vars) leaves) c.args.from) (sym c.lesser_of-next.ensures)
    (least-more test name vars leaves c.args.from c.loop-i.i c.at.result.0.now c.at.result.1.now c.loop-i.next c.next_wanting.result c.at.ensures.pair c.loop-i.invariant c.next_wanting.ensures)

pub returns-then-is_first : goal.returns-then-is_first
returns-then-is_first c =
    let test = admits c.args.jobs.now c.args.event.now in
    let name = c.args.event.now.name in
    let vars = c.args.event.now.vars in
    let leaves = c.args.leaves.now in
    let first : c.loop-i.next ≡ Some c.args.from = c.is_first.ensures c.if-is_first.true in
    subst (IsLeastFrom (has_wanted test name vars leaves) c.args.from) (sym first)
    (least-first test name vars leaves c.args.from c.loop-i.i (subst (IsLeastFrom (has_wanted test name (take c.loop-i.i vars) leaves) c.args.from) first c.loop-i.invariant))

pub loop-i-preserved-then-is_empty : goal.loop-i-preserved-then-is_empty
loop-i-preserved-then-is_empty c =
    let empty : c.at.result.1.now ≡ [] = grind (arith, common_steps) in
    least-again (admits c.args.jobs.now c.args.event.now) c.args.event.now.name c.args.event.now.vars c.args.leaves.now c.args.from c.loop-i.i c.at.result.0.now c.at.result.1.now c.loop-i.next c.at.ensures.pair
    empty c.loop-i.invariant
