-- A name's number is a signal's.
use Rattle.std.proofs.Common.{◌≡◌, ℕ, ◌+◌, ◌<◌, true, List, [], Option, None, Some, option_map, refl, subst, arith}
use Rattle.std.specs.Prelude.{position}
use Rattle.std.specs.Str.{bytes_eq}
use Rattle.std.proofs.lemmas.Bool.Decides.{nat_tests}
use Rattle.std.proofs.lemmas.List.Quantifiers.{position-Some}
use Rattle.up_stanza.specs.Signals.{names, is_signal, number_of}

one_more : (place : ℕ) → place < 31 → is_signal (place + 1) ≡ true
one_more place few = grind (arith, nat_tests)

pub signal_numbers : (name : List ℕ) (number : ℕ) → number_of name ≡ Some number → is_signal number ≡ true
unfolding number_of
signal_numbers name number is = by_place (position (λ known. bytes_eq known name) names) refl is
  where
    by_place : (found : Option ℕ) → position (λ known. bytes_eq known name) names ≡ found → option_map (λ place. place + 1) found ≡ Some number → is_signal number ≡ true
    by_place None e is = absurd (cc)
    by_place (Some place) e is =
        let inside = (position-Some (λ known. bytes_eq known name) names place [] e).0 in
        let same : place + 1 ≡ number = cc in
        subst (λ n. is_signal n ≡ true) same (one_more place inside)
