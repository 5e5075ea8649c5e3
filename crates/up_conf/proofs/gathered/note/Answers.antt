use Rattle.std.proofs.Common.{◌∙◌, sym, ap, true, cond, Bool}
use Rattle.std.specs.BTreeSet.{contains_by}
use Rattle.std.specs.Ordering.{nat_cmp}
use Rattle.std.specs.Cmp.Lexicographic.{slice_cmp}
use Rattle.std.specs.Str.{bytes_eq}
use Rattle.std.proofs.lemmas.Map.Text.{is_eq-slice_cmp}
use Rattle.up_conf.proofs.Gathers.{seen_more}
use Rattle.up_conf.proofs.gathered.note.Goals as goal

pub returns-clause-seen : goal.returns-clause-seen
returns-clause-seen c = λ keys are other.
    let key = c.args.key.now in
    let had : Bool = contains_by (λ k. slice_cmp nat_cmp other k.now) c.args.seen.now in
    c.in_ok-new.ensures.updates.0 (record { ref_ptr = (0, 0); now = other }) ∙ ap (λ b. cond b true had) (is_eq-slice_cmp key other)
    ∙ ap (cond (bytes_eq key other) true) (are other) ∙ sym (seen_more key other keys)
