-- Texts without some of their bytes of ASCII.
use Rattle.std.proofs.Common.{◌≡◌, ◌⊎◌, inl, inr, ℕ, zero, suc, ◌<◌, ◌≤◌, true, false, ◌==◌, List, [], ◌∷◌, ◌++◌, length, drop, refl, sym, ap, subst, arith, append_assoc, append-nil, length-append, flat_map, IsUtf8}
use Rattle.std.specs.List.{list_all, list_any}
use Rattle.std.specs.Str.{IsAscii}
use Rattle.std.proofs.lemmas.Bool.{and_from, or_parts, not_from_false}
use Rattle.std.proofs.lemmas.List.{get_or_at, take_at, drop_at}
use Rattle.std.proofs.lemmas.Str.{IsUtf8-append, IsUtf8-nil, IsUtf8-take, IsUtf8-drop, IsUtf8-from_ascii, IsCharBoundary-before_ascii, IsCharBoundary-after_ascii}
use Rattle.up_text.specs.Tokens.{Mark, is_line_feed}
use Rattle.up_image.specs.Definable.{is_token_byte}

-- where a text may be cut

pub before_cut : (xs : List ℕ) (b : ℕ) (ys : List ℕ) → IsUtf8 (xs ++ b ∷ ys) → b < 128 → IsUtf8 xs
before_cut xs b ys text low =
    let at = IsCharBoundary-before_ascii (xs ++ b ∷ ys) (length xs) (omega (arith, length-append xs (b ∷ ys))) (omega (arith, get_or_at xs b ys 0 (length xs) refl, low)) in
    subst IsUtf8 (take_at xs (b ∷ ys) (length xs) refl) (IsUtf8-take (xs ++ b ∷ ys) (length xs) text at)

pub from_cut : (xs : List ℕ) (b : ℕ) (ys : List ℕ) → IsUtf8 (xs ++ b ∷ ys) → b < 128 → IsUtf8 (b ∷ ys)
from_cut xs b ys text low =
    let at = IsCharBoundary-before_ascii (xs ++ b ∷ ys) (length xs) (omega (arith, length-append xs (b ∷ ys))) (omega (arith, get_or_at xs b ys 0 (length xs) refl, low)) in
    subst IsUtf8 (drop_at xs (b ∷ ys) (length xs) refl) (IsUtf8-drop (xs ++ b ∷ ys) (length xs) text at)

pub tail_text : (b : ℕ) (ys : List ℕ) → IsUtf8 (b ∷ ys) → b < 128 → IsUtf8 ys
tail_text b ys text low = IsUtf8-drop (b ∷ ys) 1 text (IsCharBoundary-after_ascii (b ∷ ys) 0 text (omega arith) low)

pub after_cut : (xs : List ℕ) (b : ℕ) (ys : List ℕ) → IsUtf8 (xs ++ b ∷ ys) → b < 128 → IsUtf8 ys
after_cut xs b ys text low = tail_text b ys (from_cut xs b ys text low) low

pub push_text : (xs : List ℕ) (b : ℕ) (ys : List ℕ) → IsUtf8 (xs ++ b ∷ ys) → IsUtf8 ((xs ++ b ∷ []) ++ ys)
push_text xs b ys text = subst IsUtf8 (sym (append_assoc xs (b ∷ []) ys)) text

space_text : IsUtf8 (32 ∷ [])
space_text = IsUtf8-from_ascii (32 ∷ []) ascii
  where
    ascii : IsAscii (32 ∷ [])
    ascii zero = omega arith
    ascii (suc i) = omega arith

-- what is given for a byte: itself, if it is no line feed; for one of ASCII nothing or a space
abbrev pub Gives : ℕ → List ℕ → Type 0
Gives b given = ((given ≡ b ∷ []) × (is_line_feed b ≡ false)) ⊎ ((b < 128) × ((given ≡ []) ⊎ (given ≡ 32 ∷ [])))

abbrev pub Ends : List ℕ → Type 0
Ends [] = Unit {0}
Ends (b ∷ text) = b < 128

-- what marks give for a text whose rest begins with a byte of ASCII
abbrev pub Thins : (Mark → List ℕ) → List ℕ → List Mark → Type 0
Thins given text [] = Ends text
Thins given [] (mark ∷ ms) = (given mark ≡ []) × Thins given [] ms
Thins given (b ∷ text) (mark ∷ ms) = Gives b (given mark) × Thins given text ms

-- the same, where later marks may give nothing
abbrev pub Tells : (Mark → List ℕ) → List ℕ → List Mark → Type 0
Tells given text [] = Ends text
Tells given [] (mark ∷ ms) = (given mark ≡ []) × Tells given [] ms
Tells given (b ∷ text) (mark ∷ ms) = (Gives b (given mark) × Tells given text ms) ⊎ ((b < 128) × (flat_map given (mark ∷ ms) ≡ []))

pub thins_tells : (given : Mark → List ℕ) (text : List ℕ) (ms : List Mark) → Thins given text ms → Tells given text ms
thins_tells given text [] thins = thins
thins_tells given [] (mark ∷ ms) thins = (thins.0, thins_tells given [] ms thins.1)
thins_tells given (b ∷ text) (mark ∷ ms) thins = inl (thins.0, thins_tells given text ms thins.1)

-- what is given is text
pub told_text : (given : Mark → List ℕ) (pending text : List ℕ) (ms : List Mark) → IsUtf8 (pending ++ text) → Tells given text ms → IsUtf8 (pending ++ flat_map given ms)
told_text given pending [] [] whole tells = whole
told_text given pending (b ∷ text) [] whole low = subst IsUtf8 (sym (append-nil pending)) (before_cut pending b text whole low)
told_text given pending [] (mark ∷ ms) whole tells = rw tells.0 (told_text given pending [] ms whole tells.1)
told_text given pending (b ∷ text) (mark ∷ ms) whole tells =
    by_case tells (λ later. told_text given (pending ++ b ∷ []) text ms (push_text pending b text whole) later) (λ low later. told_text given [] text ms (after_cut pending b text whole low) later)
  where
    by_gift : Gives b (given mark) → Tells given text ms → (Tells given text ms → IsUtf8 ((pending ++ b ∷ []) ++ flat_map given ms)) → (b < 128 → Tells given text ms → IsUtf8 (flat_map given ms)) → IsUtf8 (pending ++ (given mark ++ flat_map given ms))
    by_gift (inl kept) later on cut = rw kept.0 (subst IsUtf8 (append_assoc pending (b ∷ []) (flat_map given ms)) (on later))
    by_gift (inr (low, inl none)) later on cut = rw none (IsUtf8-append pending (flat_map given ms) (before_cut pending b text whole low) (cut low later))
    by_gift (inr (low, inr space)) later on cut =
        rw space (IsUtf8-append pending (32 ∷ flat_map given ms) (before_cut pending b text whole low) (IsUtf8-append (32 ∷ []) (flat_map given ms) space_text (cut low later)))

    by_case : Tells given (b ∷ text) (mark ∷ ms) → (Tells given text ms → IsUtf8 ((pending ++ b ∷ []) ++ flat_map given ms)) → (b < 128 → Tells given text ms → IsUtf8 (flat_map given ms)) → IsUtf8 (pending ++ (given mark ++ flat_map given ms))
    by_case (inl tells) on cut = by_gift tells.0 tells.1 on cut
    by_case (inr ends) on cut = subst (λ bs. IsUtf8 (pending ++ bs)) (sym ends.1) (subst IsUtf8 (sym (append-nil pending)) (before_cut pending b text whole ends.0))

-- it has no byte 0 and no line feed
pub told_bytes : (given : Mark → List ℕ) (text : List ℕ) (ms : List Mark) → list_any (λ byte. byte == 0) text ≡ false → Tells given text ms → list_all is_token_byte (flat_map given ms) ≡ true
unfolding is_line_feed
told_bytes given text [] clean tells = refl
told_bytes given [] (mark ∷ ms) clean tells = rw tells.0 (told_bytes given [] ms clean tells.1)
told_bytes given (b ∷ text) (mark ∷ ms) clean tells =
    let parts = or_parts (b == 0) (list_any (λ byte. byte == 0) text) clean in
    by_case parts.0 tells (λ later. told_bytes given text ms parts.1 later)
  where
    by_gift : (b == 0) ≡ false → Gives b (given mark) → list_all is_token_byte (flat_map given ms) ≡ true → list_all is_token_byte (given mark ++ flat_map given ms) ≡ true
    by_gift none (inl kept) later = rw kept.0 (and_from _ _ (and_from _ _ (not_from_false _ none) (not_from_false _ kept.1)) later)
    by_gift none (inr (low, inl nothing)) later = rw nothing later
    by_gift none (inr (low, inr space)) later = rw space later

    by_case : (b == 0) ≡ false → Tells given (b ∷ text) (mark ∷ ms) → (Tells given text ms → list_all is_token_byte (flat_map given ms) ≡ true) → list_all is_token_byte (given mark ++ flat_map given ms) ≡ true
    by_case none (inl tells) on = by_gift none tells.0 (on tells.1)
    by_case none (inr ends) on = ap (list_all is_token_byte) ends.1

-- it is no longer
pub told_short : (given : Mark → List ℕ) (text : List ℕ) (ms : List Mark) → Tells given text ms → length (flat_map given ms) ≤ length text
told_short given text [] tells = omega arith
told_short given [] (mark ∷ ms) tells = rw tells.0 (told_short given [] ms tells.1)
told_short given (b ∷ text) (mark ∷ ms) tells = by_case tells (λ later. told_short given text ms later)
  where
    by_gift : Gives b (given mark) → length (flat_map given ms) ≤ length text → length (given mark ++ flat_map given ms) ≤ length (b ∷ text)
    by_gift (inl kept) later = rw kept.0 (omega (arith, later))
    by_gift (inr (low, inl nothing)) later = rw nothing (omega (arith, later))
    by_gift (inr (low, inr space)) later = rw space (omega (arith, later))

    by_case : Tells given (b ∷ text) (mark ∷ ms) → (Tells given text ms → length (flat_map given ms) ≤ length text) → length (given mark ++ flat_map given ms) ≤ length (b ∷ text)
    by_case (inl tells) on = by_gift tells.0 (on tells.1)
    by_case (inr ends) on = omega (arith, ap length ends.1)

-- what stands after it is text
pub thinned_rest : (given : Mark → List ℕ) (pending text : List ℕ) (ms : List Mark) → IsUtf8 (pending ++ text) → Thins given text ms → IsUtf8 (drop (length ms) text)
thinned_rest given pending [] [] whole thins = IsUtf8-nil
thinned_rest given pending (b ∷ text) [] whole low = from_cut pending b text whole low
thinned_rest given pending [] (mark ∷ ms) whole thins = IsUtf8-nil
thinned_rest given pending (b ∷ text) (mark ∷ ms) whole thins = thinned_rest given (pending ++ b ∷ []) text ms (push_text pending b text whole) thins.1
