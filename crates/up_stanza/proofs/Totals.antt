-- How many keys are left to a file.
use Rattle.std.proofs.Common.{◌≡◌, ℕ, ◌+◌, ◌-◌, ◌<◌, ◌≤◌, false, List, ◌∷◌, length, drop, get_or, add-one, arith, nat_le}
use Rattle.std.proofs.lemmas.Bool.{leb-true, false_from_ne_true}
use Rattle.std.proofs.lemmas.Bool.Decides.{nat_tests}
use Rattle.std.proofs.Math.Seq.{drop-cons}
use Rattle.up_stanza.specs.declared.stanza.Stanza.{Stanza}
use Rattle.up_stanza.specs.Confs.{total}

drop_front : (xs : List Stanza) (i : ℕ) (d : Stanza) → i < length xs → drop i xs ≡ get_or xs i d ∷ drop (i + 1) xs
drop_front xs i d l = rw add-one (drop-cons xs i d l)

fits_less : (n m left : ℕ) → n ≤ left → nat_le m (left - n) ≡ nat_le (n + m) left
fits_less n m left less = grind (arith, nat_tests)

fits_none : (n m left : ℕ) → left < n → nat_le (n + m) left ≡ false
fits_none n m left more = false_from_ne_true _ (λ yes. let le : n + m ≤ left = leb-true (n + m) left yes in omega (arith, le, more))

-- a stanza more
pub total_more : (count : Stanza → ℕ) (xs : List Stanza) (i : ℕ) (d : Stanza) (left : ℕ) → i < length xs → count (get_or xs i d) ≤ left
    → nat_le (total count (drop (i + 1) xs)) (left - count (get_or xs i d)) ≡ nat_le (total count (drop i xs)) left
total_more count xs i d left l less = rw (drop_front xs i d l) (fits_less (count (get_or xs i d)) (total count (drop (i + 1) xs)) left less)

-- one that is too much
pub total_over : (count : Stanza → ℕ) (xs : List Stanza) (i : ℕ) (d : Stanza) (left : ℕ) → i < length xs → left < count (get_or xs i d) → nat_le (total count (drop i xs)) left ≡ false
total_over count xs i d left l more = rw (drop_front xs i d l) (fits_none (count (get_or xs i d)) (total count (drop (i + 1) xs)) left more)
