-- The jobs and the faults of files, one file after another.
use Rattle.std.proofs.Common.{◌≡◌, ℕ, ◌+◌, ◌<◌, List, [], ◌∷◌, ◌++◌, length, get_or, take, Option, Some, None, refl, sym, ◌∙◌, ap, option_to_list}
use Rattle.std.specs.List.{filter_map, cons_option}
use Rattle.std.proofs.lemmas.List.{take_more}
use Rattle.std.proofs.lemmas.List.Elements.{filter_map-append}

cons_option-to_list : {Y : Type 0} (o : Option Y) → cons_option o [] ≡ option_to_list o
cons_option-to_list None = refl
cons_option-to_list (Some y) = refl

-- what one more item gives
pub filter_map_more : {X Y : Type 0} (h : X → Option Y) (xs : List X) (i : ℕ) (d : X) → i < length xs → filter_map h (take (i + 1) xs) ≡ filter_map h (take i xs) ++ option_to_list (h (get_or xs i d))
filter_map_more h xs i d inside =
    ap (filter_map h) (take_more xs i d inside) ∙ filter_map-append h (take i xs) (get_or xs i d ∷ []) ∙ ap (λ ys. filter_map h (take i xs) ++ ys) (cons_option-to_list (h (get_or xs i d)))

-- a list of what the items so far give, with what one more gives at its end
pub kept : {X Y : Type 0} (h : X → Option Y) (xs : List X) (i : ℕ) (x : X) (old new : List Y) → i < length xs → x ≡ get_or xs i x → old ≡ filter_map h (take i xs) → new ≡ old ++ option_to_list (h x) → new ≡ filter_map h (take (i + 1) xs)
kept h xs i x old new inside at before after =
    after ∙ ap (λ ys. ys ++ option_to_list (h x)) before ∙ ap (λ y. filter_map h (take i xs) ++ option_to_list (h y)) at ∙ sym (filter_map_more h xs i x inside)
