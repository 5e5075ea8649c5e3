use Rattle.std.proofs.Common.{◌≡◌, false, refl}
use Rattle.std.proofs.lemmas.Bool.{false_from_ne_true}
use Rattle.std.proofs.lemmas.Bool.Decides.{Decides-eqb}
use Rattle.std.proofs.lemmas.Slice.Eq.{ends_is}
use Rattle.std.specs.List.{ends_with}
use Rattle.std.specs.Prelude.{nat_eq, codes}
use Rattle.up_image.proofs.definable_events.is_negated_key.Goals as goal

pub returns-in-None : goal.returns-in-None
returns-in-None c =
    let text = c.args.text.now in
    let is = ends_is Decides-eqb text (codes "!") (ends_with nat_eq text (codes "!")) refl in
    let other : ends_with nat_eq text (codes "!") ≡ false = false_from_ne_true _ (λ yes. c.in-None.ensures.cases _ (is.0 yes)) in
    rw other refl
