-- The signals by their numbers.
use Rattle.std.proofs.Common.{◌≡◌, ℕ, zero, suc, ◌+◌, ◌-◌, ◌<◌, ◌≤◌, Bool, true, false, ◌&&◌, ◌==◌, nat_lt, Option, None, Some, option_and_then, refl, ap, sym, ◌∙◌, arith}
use Rattle.std.proofs.lemmas.Bool.{and_parts}
use Rattle.std.proofs.lemmas.Bool.Decides.{nat_tests}
use Rattle.up_stanza.specs.Numbers.{is_digit}
use Rattle.std.proofs.lemmas.Option.{slice_get_past}
use Rattle.up_stanza.specs.Signals.{is_signal, name_of, names, number_of, signal_in, without_sig}
use Rattle.up_image.specs.Finding.{signal_of}

-- whether this number was read
is_it : ℕ → Option ℕ → Bool
is_it n None = false
is_it n (Some m) = m == n

it_is : (n : ℕ) (read : Option ℕ) → is_it n read ≡ true → read ≡ Some n
unfolding is_it
it_is n None is = absurd (cc)
it_is n (Some m) is = ap Some (grind (arith, nat_tests, is))

-- whether all numbers below this one pass
all_below : ℕ → (ℕ → Bool) → Bool
all_below zero p = true
all_below (suc n) p = p n && all_below n p

below_by : (n k : ℕ) (p : ℕ → Bool) (before : Bool) → nat_lt k n ≡ before → (k < n → p k ≡ true) → p n ≡ true → k < suc n → p k ≡ true
below_by n k p true e less last within = less (grind (arith, nat_tests, e))
below_by n k p false e less last within =
    let same : k ≡ n = grind (arith, nat_tests, e, within) in
    ap p same ∙ last

below : (n k : ℕ) (p : ℕ → Bool) → all_below n p ≡ true → k < n → p k ≡ true
unfolding all_below
below zero k p all less = absurd (omega (arith, less))
below (suc n) k p all less =
    let parts = and_parts (p n) (all_below n p) all in
    below_by n k p (nat_lt k n) refl (λ within. below n k p parts.1 within) parts.0 less

-- the name of each signal is read as it
read_back : ℕ → Bool
read_back n = is_it (n + 1) (option_and_then signal_in (name_of (n + 1)))

all_read_back : all_below 31 read_back ≡ true
unfolding all_below read_back is_it name_of number_of without_sig is_digit
all_read_back = refl

read_at : (n : ℕ) → read_back n ≡ true → is_it (n + 1) (option_and_then signal_in (name_of (n + 1))) ≡ true
unfolding read_back
read_at n is = is

no_name : (n : ℕ) → 31 ≤ n → name_of (n + 1) ≡ None
unfolding name_of
no_name n above =
    let some : (n + 1 == 0) ≡ false = grind (arith, nat_tests) in
    let back : n + 1 - 1 ≡ n = omega arith in
    rw (some, back) (slice_get_past names n above)

by_order : (n : ℕ) (few : Bool) → nat_lt n 31 ≡ few → option_and_then signal_in (name_of (n + 1)) ≡ signal_of (n + 1)
by_order n true few =
    let within : n < 31 = grind (arith, nat_tests, few) in
    let is : is_signal (n + 1) ≡ true = grind (arith, nat_tests, within) in
    it_is (n + 1) (option_and_then signal_in (name_of (n + 1))) (read_at n (below 31 n read_back all_read_back within)) ∙ sym (rw is refl)
by_order n false few =
    let above : 31 ≤ n = grind (arith, nat_tests, few) in
    let none : is_signal (n + 1) ≡ false = grind (arith, nat_tests, above) in
    ap (option_and_then signal_in) (no_name n above) ∙ sym (rw none refl)

no_zero : option_and_then signal_in (name_of 0) ≡ signal_of 0
unfolding name_of
no_zero = refl

-- the name of a number says this signal, and a number that is none has no name
pub signal_reads : (number : ℕ) → option_and_then signal_in (name_of number) ≡ signal_of number
signal_reads zero = no_zero
signal_reads (suc n) =
    let more : suc n ≡ n + 1 = omega arith in
    ap (λ k. option_and_then signal_in (name_of k)) more ∙ by_order n (nat_lt n 31) refl ∙ sym (ap signal_of more)
