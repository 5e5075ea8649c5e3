use Rattle.std.proofs.Common.{◌∙◌, sym, ap, true, List, [], get_or, Bor, cond, ℕ, Bool}
use Rattle.std.specs.BTreeSet.{contains_by}
use Rattle.std.specs.Ordering.{nat_cmp}
use Rattle.std.specs.Cmp.Lexicographic.{slice_cmp}
use Rattle.std.proofs.lemmas.Map.Text.{is_eq-slice_cmp}
use Rattle.up_image.proofs.Repeats.{has_twice-at, has_twice-more, seen_more, from_not-false, from_not-true}
use Rattle.up_image.proofs.twice.has_equal.Goals as goal

pub returns-then-not-branch : goal.returns-then-not-branch
returns-then-not-branch c =
    let none : Bor (List ℕ) = record { ref_ptr = (0, 0); now = [] } in
    let text = (get_or c.args.texts.now c.loop-text.text-index none).now in
    let had = from_not-false _ (sym c.in_ok-insert.ensures.added ∙ c.if-not-branch.true) in
    has_twice-at (λ text. text.now) c.args.texts.now c.loop-text.text-index none c.loop-text-test.true (sym (c.loop-text.invariant.seen text) ∙ had)

pub loop-text-preserved : goal.loop-text-preserved
loop-text-preserved c =
    let none : Bor (List ℕ) = record { ref_ptr = (0, 0); now = [] } in
    let text = (get_or c.args.texts.now c.loop-text.text-index none).now in
    let had : List ℕ → Bool = λ q. contains_by (λ k. slice_cmp nat_cmp q k.now) c.loop-text.seen in
    let new = from_not-true _ (sym c.in_ok-insert.ensures.added ∙ c.if-not-branch.false) in
    record {
      seen = λ q. seen_more (λ text. text.now) c.args.texts.now c.loop-text.text-index none q (had q) _ c.loop-text-test.true (c.loop-text.invariant.seen q)
          (c.in_ok-insert.ensures.updates.0 (record { ref_ptr = (0, 0); now = q }) ∙ ap (λ b. cond b true (had q)) (is_eq-slice_cmp text q));
      apart = has_twice-more (λ text. text.now) c.args.texts.now c.loop-text.text-index none c.loop-text-test.true c.loop-text.invariant.apart (sym (c.loop-text.invariant.seen text) ∙ new);
    }
