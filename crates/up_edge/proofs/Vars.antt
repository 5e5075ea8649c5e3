-- The variables of a command while the pairs of an environment are set from the last to the first.
use Rattle.std.proofs.Common.{◌≡◌, ◌≢◌, ℕ, ◌+◌, Bool, true, false, List, ◌∷◌, drop, Option, Some, option_map, ap, refl, sym, subst, ◌∙◌, add-one, drop-cons, suc}
use Rattle.std.specs.Prelude.{slice_get, if◌then◌else◌}
use Rattle.std.specs.Str.{bytes_eq}
use Rattle.std.proofs.lemmas.Slice.Eq.{bytes_eq-Decides}
use Rattle.std.proofs.lemmas.Option.{slice_get_within, get_or_from_slice_get}
use Rattle.up_text.specs.Bindings.{value_of}

-- what is left from a place on begins with the item there
pub drop-slice_get : {X : Type 0} (xs : List X) (i j : ℕ) (x : X) → i + 1 ≡ j → slice_get xs i ≡ Some x → drop i xs ≡ x ∷ drop j xs
drop-slice_get xs i j x next at =
    drop-cons xs i x (slice_get_within xs i x at) ∙ ap (λ y. y ∷ drop (suc i) xs) (get_or_from_slice_get xs i x x at) ∙ ap (λ k. x ∷ drop k xs) (sym (add-one i) ∙ next)

-- one pair more, before those that are set: its key has its value, and each other key what it had
pub vars_of-drop : (xs : List (List ℕ × List ℕ)) (i j : ℕ) (k v : List ℕ) (before after : List ℕ → Option (Option (List ℕ)))
    → i + 1 ≡ j → slice_get xs i ≡ Some (k, v)
    → ((key : List ℕ) → before key ≡ option_map (λ value. Some value) (value_of key (drop j xs)))
    → after k ≡ Some (Some v)
    → ((key : List ℕ) → key ≢ k → after key ≡ before key)
    → (key : List ℕ) → after key ≡ option_map (λ value. Some value) (value_of key (drop i xs))
vars_of-drop xs i j k v before after next at earlier set others key =
    rw (drop-slice_get xs i j (k, v) next at) (by_case (bytes_eq key k) refl)
  where
    by_case : (b : Bool) → bytes_eq key k ≡ b → after key ≡ option_map (λ value. Some value) (if b then Some v else value_of key (drop j xs))
    by_case true e = subst (λ (n : List ℕ). after n ≡ Some (Some v)) (sym ((bytes_eq-Decides key k).0 e)) set
    by_case false e =
        others key (λ same. let absurdity : true ≡ false = sym ((bytes_eq-Decides key k).1 same) ∙ e in cc) ∙ earlier key
