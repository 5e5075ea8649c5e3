use Rattle.std.proofs.Common.{◌∙◌, sym, ap, true, cond, Bool}
use Rattle.std.specs.BTreeSet.{contains_by}
use Rattle.std.specs.Ordering.{nat_cmp}
use Rattle.std.specs.Cmp.Lexicographic.{slice_cmp}
use Rattle.std.specs.Str.{bytes_eq}
use Rattle.std.proofs.lemmas.Map.Text.{is_eq-slice_cmp}
use Rattle.up_conf.proofs.Gathers.{seen_more}
use Rattle.up_lint.proofs.names.append.Goals as goal

pub returns-in-Ok-clause-seen : goal.returns-in-Ok-clause-seen
returns-in-Ok-clause-seen c = λ names are other.
    let name = c.args.name.now in
    let had : Bool = contains_by (λ k. slice_cmp nat_cmp other k.now) c.args.seen.now in
    c.in-Ok.ensures.updates.0 (record { ref_ptr = (0, 0); now = other }) ∙ ap (λ b. cond b true had) (is_eq-slice_cmp name other)
    ∙ ap (cond (bytes_eq name other) true) (are other) ∙ sym (seen_more name other names)
