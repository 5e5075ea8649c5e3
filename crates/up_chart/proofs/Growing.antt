-- Lists to which what one item more shows is appended.
use Rattle.std.proofs.Common.{◌≡◌, ℕ, ◌+◌, ◌<◌, zero, suc, List, [], ◌∷◌, ◌++◌, length, Option, None, Some, get_or, replicate, take, slice_get, refl, ap, ◌∙◌, sym, add-one, append_assoc, append-nil}
use Rattle.std.specs.List.{flat_map}
use Rattle.std.proofs.lemmas.List.{take_more}

-- what an item shows, if there is one
abbrev pub of_found : {X Y : Type 0} → (X → List Y) → Option X → List Y
of_found f None = []
of_found f (Some x) = f x

one_more_suc : {X Y : Type 0} (f : X → List Y) (xs : List X) (i : ℕ) → flat_map f (take (suc i) xs) ≡ flat_map f (take i xs) ++ of_found f (slice_get xs i)
one_more_suc f [] zero = refl
one_more_suc f [] (suc i) = refl
one_more_suc f (x ∷ xs) zero = append-nil (f x)
one_more_suc f (x ∷ xs) (suc i) = ap (λ rest. f x ++ rest) (one_more_suc f xs i) ∙ sym (append_assoc (f x) (flat_map f (take i xs)) (of_found f (slice_get xs i)))

pub one_more : {X Y : Type 0} (f : X → List Y) (xs : List X) (i : ℕ) → flat_map f (take (i + 1) xs) ≡ flat_map f (take i xs) ++ of_found f (slice_get xs i)
one_more f xs i = rw add-one (one_more_suc f xs i)

last : {X Y : Type 0} (f : X → List Y) (items : List X) (item : X) → flat_map f (items ++ item ∷ []) ≡ flat_map f items ++ f item
last f [] item = append-nil (f item)
last f (first ∷ items) item = ap (λ rest. f first ++ rest) (last f items item) ∙ sym (append_assoc (f first) (flat_map f items) (f item))

-- what more is appended goes after all that was there
pub more : {Y : Type 0} (before found one old new : List Y) → new ≡ old ++ one → old ≡ before ++ found → new ≡ before ++ (found ++ one)
more before found one old new step goes = step ∙ ap (λ it. it ++ one) goes ∙ append_assoc before found one

-- in a loop over a list, what an item shows goes last
pub pushed_next : {X Y : Type 0} (f : X → List Y) (items : List X) (i : ℕ) (item : X) (before old new : List Y) → i < length items → item ≡ get_or items i item
    → new ≡ old ++ f item → old ≡ before ++ flat_map f (take i items) → new ≡ before ++ flat_map f (take (i + 1) items)
pushed_next f items i item before old new below is step goes =
    let shown = ap (flat_map f) (take_more items i item below) ∙ last f (take i items) (get_or items i item) ∙ ap (λ it. flat_map f (take i items) ++ f it) (sym is) in
    more before (flat_map f (take i items)) (f item) old new step goes ∙ ap (λ it. before ++ it) (sym shown)

-- the same of a list whose items are read at their places
pub pushed_at : {X Y : Type 0} (f : X → List Y) (items : List X) (i : ℕ) (d : X) (before old new : List Y) → i < length items
    → new ≡ old ++ f (get_or items i d) → old ≡ before ++ flat_map f (take i items) → new ≡ before ++ flat_map f (take (i + 1) items)
pushed_at f items i d before old new below step goes =
    let shown = ap (flat_map f) (take_more items i d below) ∙ last f (take i items) (get_or items i d) in
    more before (flat_map f (take i items)) (f (get_or items i d)) old new step goes ∙ ap (λ it. before ++ it) (sym shown)

same : {Y : Type 0} (n : ℕ) (y : Y) → replicate n y ++ y ∷ [] ≡ replicate (suc n) y
same zero y = refl
same (suc n) y = ap (λ it. y ∷ it) (same n y)

-- one more of what is repeated
pub repeated_next : {Y : Type 0} (y : Y) (n : ℕ) (before old new : List Y) → new ≡ old ++ y ∷ [] → old ≡ before ++ replicate n y → new ≡ before ++ replicate (n + 1) y
repeated_next y n before old new step goes =
    more before (replicate n y) (y ∷ []) old new step goes ∙ ap (λ it. before ++ it) (same n y ∙ ap (λ k. replicate k y) (sym (add-one n)))

-- what calls append, one after another
pub two : {Y : Type 0} (w0 w1 w2 a b : List Y) → w1 ≡ w0 ++ a → w2 ≡ w1 ++ b → w2 ≡ w0 ++ (a ++ b)
two w0 w1 w2 a b is1 is2 =
    more w0 a b w1 w2 is2 is1

pub three : {Y : Type 0} (w0 w1 w2 w3 a b c : List Y) → w1 ≡ w0 ++ a → w2 ≡ w1 ++ b → w3 ≡ w2 ++ c → w3 ≡ w0 ++ (a ++ b ++ c)
three w0 w1 w2 w3 a b c is1 is2 is3 =
    more w0 (a ++ b) c w2 w3 is3 (two w0 w1 w2 a b is1 is2)

pub four : {Y : Type 0} (w0 w1 w2 w3 w4 a b c d : List Y) → w1 ≡ w0 ++ a → w2 ≡ w1 ++ b → w3 ≡ w2 ++ c → w4 ≡ w3 ++ d → w4 ≡ w0 ++ (a ++ b ++ c ++ d)
four w0 w1 w2 w3 w4 a b c d is1 is2 is3 is4 =
    more w0 (a ++ b ++ c) d w3 w4 is4 (three w0 w1 w2 w3 a b c is1 is2 is3)

pub five : {Y : Type 0} (w0 w1 w2 w3 w4 w5 a b c d e : List Y) → w1 ≡ w0 ++ a → w2 ≡ w1 ++ b → w3 ≡ w2 ++ c → w4 ≡ w3 ++ d → w5 ≡ w4 ++ e → w5 ≡ w0 ++ (a ++ b ++ c ++ d ++ e)
five w0 w1 w2 w3 w4 w5 a b c d e is1 is2 is3 is4 is5 =
    more w0 (a ++ b ++ c ++ d) e w4 w5 is5 (four w0 w1 w2 w3 w4 a b c d is1 is2 is3 is4)
