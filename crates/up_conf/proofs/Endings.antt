-- What cutting an ending off a path says.
use Rattle.std.proofs.Common.{◌≡◌, ℕ, true, false, List, Option, Some, None, refl, nat_eq, length}
use Rattle.std.specs.List.{ends_with}
use Rattle.std.specs.Option.{option_copied, MatchOption}
use Rattle.std.specs.Str.Pattern.{FindsTextSuffix, StripsSuffix}
use Rattle.std.proofs.lemmas.Bool.{false_from_ne_true}
use Rattle.std.proofs.lemmas.Bool.Decides.{Decides-eqb}
use Rattle.std.proofs.lemmas.Slice.Eq.{ends_is}
use denote.Ref.{Bor}
use Rattle.up_conf.specs.Folders.{without_ending}

pub without_ending-from_strip : (ending path : List ℕ) (result : Option (Bor (List ℕ))) → MatchOption result (FindsTextSuffix ending path None) (λ name. StripsSuffix (FindsTextSuffix ending) path name.now) → option_copied result ≡ without_ending ending path
without_ending-from_strip ending path None h =
    let is = ends_is Decides-eqb path ending (ends_with nat_eq path ending) refl in
    let other : ends_with nat_eq path ending ≡ false = false_from_ne_true _ (λ yes. h _ (is.0 yes)) in
    rw other refl
without_ending-from_strip ending path (Some name) h =
    let is = ends_is Decides-eqb path ending (ends_with nat_eq path ending) refl in
    let yes : ends_with nat_eq path ending ≡ true = is.1 _ h.1.1 in
    let long : h.0 ≡ length ending = h.1.0 in
    rw (yes, h.2, long) refl
