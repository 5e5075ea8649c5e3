-- What a loop over a list has found, one item further.
use Rattle.std.proofs.Common.{◌≡◌, ℕ, suc, ◌+◌, ◌<◌, List, [], ◌∷◌, ◌++◌, map, length, take, drop, get_or, ap, sym, ◌∙◌, append_assoc, append-nil, drop-cons, add-one}
use Rattle.std.specs.List.{flat_map}
use Rattle.std.proofs.lemmas.List.{map_more, take_more}

-- the items from a place on are the one there and those after it
pub splits : {X : Type 0} (items : List X) (i : ℕ) (item : X) → i < length items → item ≡ get_or items i item → drop i items ≡ item ∷ drop (i + 1) items
splits items i item below is =
    drop-cons items i item below ∙ ap (λ it. it ∷ drop (suc i) items) (sym is) ∙ ap (λ n. item ∷ drop n items) (sym (add-one i))

last : {X Y : Type 0} (f : X → List Y) (items : List X) (item : X) → flat_map f (items ++ item ∷ []) ≡ flat_map f items ++ f item
last f [] item = append-nil (f item)
last f (first ∷ items) item = ap (λ rest. f first ++ rest) (last f items item) ∙ sym (append_assoc (f first) (flat_map f items) (f item))

-- what more is appended goes after all that was there
pub more : {Y : Type 0} (before found one old new : List Y) → new ≡ old ++ one → old ≡ before ++ found → new ≡ before ++ (found ++ one)
more before found one old new step goes = step ∙ ap (λ it. it ++ one) goes ∙ append_assoc before found one

-- what an item shows goes last
pub pushed_next : {X Y : Type 0} (f : X → List Y) (items : List X) (i : ℕ) (item : X) (before old new : List Y) → i < length items → item ≡ get_or items i item
    → new ≡ old ++ f item → old ≡ before ++ flat_map f (take i items) → new ≡ before ++ flat_map f (take (i + 1) items)
pushed_next f items i item before old new below is step goes =
    let shown = ap (flat_map f) (take_more items i item below) ∙ last f (take i items) (get_or items i item) ∙ ap (λ it. flat_map f (take i items) ++ f it) (sym is) in
    more before (flat_map f (take i items)) (f item) old new step goes ∙ ap (λ it. before ++ it) (sym shown)

-- the same of one value for each item
pub mapped_next : {X Y : Type 0} (f : X → Y) (items : List X) (i : ℕ) (item : X) (before old new : List Y) → i < length items → item ≡ get_or items i item
    → new ≡ old ++ f item ∷ [] → old ≡ before ++ map f (take i items) → new ≡ before ++ map f (take (i + 1) items)
mapped_next f items i item before old new below is step goes =
    let shown = map_more f items i item below ∙ ap (λ it. map f (take i items) ++ f it ∷ []) (sym is) in
    more before (map f (take i items)) (f item ∷ []) old new step goes ∙ ap (λ it. before ++ it) (sym shown)
