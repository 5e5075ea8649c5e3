-- Lists of which each part is as the whole.
use Rattle.std.proofs.Common.{◌≡◌, ℕ, zero, suc, ◌<◌, ◌≤◌, Bool, true, false, ◌&&◌, not, List, [], ◌∷◌, length, drop, get_or, map, refl, sym, ap, ◌∙◌, arith, Ordering, Less, Equal, Greater, is_lt, nat_cmp}
use Rattle.std.specs.List.{list_any}
use Rattle.std.specs.Ordering.{is_eq}
use Rattle.std.specs.Str.{bytes_eq}
use Rattle.std.specs.Cmp.Lexicographic.{slice_cmp, nat_list_cmp_total}
use Rattle.std.proofs.lemmas.Bool.{and_from, and_parts, or_from}
use Rattle.std.proofs.lemmas.Map.Text.{is_eq-slice_cmp}
use Rattle.up_stanza.specs.declared.exit.Exit.{Exit}
use Rattle.up_stanza.specs.Exits.{same_exit}
use Rattle.up_conf.specs.Order.{is_below}
use Rattle.up_image.specs.Compiling.{has_twice}
use Rattle.up_image.specs.Definable.{are_apart, are_ascending}

-- one name alone ascends
pub are_ascending_one : {X : Type 0} (name : X → List ℕ) (xs : List X) → length xs ≤ 1 → are_ascending (map name xs) ≡ true
are_ascending_one name [] few = refl
are_ascending_one name (x ∷ []) few = refl
are_ascending_one name (x ∷ next ∷ xs) few = absurd (omega (arith, few))

lt_not_eq : (order : Ordering) → is_lt order ≡ true → is_eq order ≡ false
lt_not_eq Less lt = refl
lt_not_eq Equal lt = absurd (cc)
lt_not_eq Greater lt = absurd (cc)

less_of : (order : Ordering) → is_lt order ≡ true → order ≡ Less
less_of Less lt = refl
less_of Equal lt = absurd (cc)
less_of Greater lt = absurd (cc)

below_differs : (a b : List ℕ) → is_below a b ≡ true → bytes_eq a b ≡ false
below_differs a b below = sym (is_eq-slice_cmp a b) ∙ lt_not_eq (slice_cmp nat_cmp a b) below

below_trans : (a b c : List ℕ) → is_below a b ≡ true → is_below b c ≡ true → is_below a c ≡ true
below_trans a b c one other =
    ap is_lt (nat_list_cmp_total.trans a b c (less_of (slice_cmp nat_cmp a b) one) (less_of (slice_cmp nat_cmp b c) other))

-- none of the names above a name is that one
absent_above : (name : List ℕ) (names : List (List ℕ)) → are_ascending (name ∷ names) ≡ true → list_any (bytes_eq name) names ≡ false
absent_above name [] up = refl
absent_above name (next ∷ names) up = or_from _ _ (below_differs name next parts.0) (absent_above name names (above names parts.1))
  where
    parts : (is_below name next ≡ true) × (are_ascending (next ∷ names) ≡ true)
    parts = and_parts (is_below name next) (are_ascending (next ∷ names)) up

    above : (names : List (List ℕ)) → are_ascending (next ∷ names) ≡ true → are_ascending (name ∷ names) ≡ true
    above [] later = refl
    above (other ∷ others) later =
        let both = and_parts (is_below next other) (are_ascending (other ∷ others)) later in
        and_from _ _ (below_trans name next other parts.0 both.0) both.1

-- of names that ascend none stands twice
pub apart : (names : List (List ℕ)) → are_ascending names ≡ true → has_twice names ≡ false
apart [] up = refl
apart (name ∷ []) up = refl
apart (name ∷ next ∷ names) up =
    or_from _ _ (absent_above name (next ∷ names) up) (apart (next ∷ names) (and_parts (is_below name next) (are_ascending (next ∷ names)) up).1)

and_false : (b : Bool) → (b && false) ≡ false
and_false true = refl
and_false false = refl

-- where an exit is met again behind it, no more are distinct
pub are_apart_met : (k : ℕ) (exits : List Exit) (exit : Exit) → k < length exits → exit ≡ get_or exits k exit → list_any (same_exit exit) (drop (suc k) exits) ≡ true → are_apart exits ≡ false
are_apart_met k [] exit within is met = absurd (omega (arith, within))
are_apart_met zero (first ∷ exits) exit within is met =
    let again : list_any (same_exit first) exits ≡ true = ap (λ e. list_any (same_exit e) exits) (sym is) ∙ met in
    rw again refl
are_apart_met (suc k) (first ∷ exits) exit within is met =
    rw (are_apart_met k exits exit (omega (arith, within)) is met) (and_false (not (list_any (same_exit first) exits)))
