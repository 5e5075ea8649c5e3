-- What a round's calls make of the silences, one call more; and what a loop over silences has made of them so far.
use Rattle.std.proofs.Common.{◌≡◌, ◌+◌, ◌++◌, ◌<◌, ℕ, List, length, take, drop, map, set, get_or, subst, sym, refl, ◌∙◌, ap, [], ◌∷◌}
use Rattle.std.proofs.lemmas.List.{take_more}
use Rattle.std.proofs.lemmas.List.Edits.{map_over_more}
use Rattle.up_edge.specs.declared.passed.Passed.{Passed}
use Rattle.up_run.specs.declared.silence.Silence.{Silence}
use Rattle.up_run.specs.Silences.{Notes, NotesAll}

-- one call after others
pub notes_append : (now : ℕ) (xs : List Passed) (x : Passed) (first between last : List Silence) → NotesAll now xs first between → Notes now x between last → NotesAll now (xs ++ x ∷ []) first last
notes_append now [] x first between last same noted = (last, subst (λ ys. Notes now x ys last) same noted, refl)
notes_append now (y ∷ xs) x first between last noted more =
    (noted.0, noted.1, notes_append now xs x noted.0 between last noted.2 more)

-- the call at a place after those before it
pub notes_more : (now : ℕ) (xs : List Passed) (i : ℕ) (x : Passed) (first between last : List Silence) → i < length xs → x ≡ get_or xs i x → NotesAll now (take i xs) first between → Notes now x between last → NotesAll now (take (i + 1) xs) first last
notes_more now xs i x first between last within here noted more =
    subst (λ ys. NotesAll now ys first last) (sym (take_more xs i x within ∙ ap (λ y. take i xs ++ y ∷ []) (sym here)))
    (notes_append now (take i xs) x first between last noted more)

-- a loop that writes over each silence what it becomes
pub written_over : (f : Silence → Silence) (xs ys : List Silence) (i : ℕ) (x y : Silence) → i < length xs → ys ≡ map f (take i xs) ++ drop i xs → x ≡ get_or ys i x → y ≡ f x → set ys i y ≡ map f (take (i + 1) xs) ++ drop (i + 1) xs
written_over f xs ys i x y within so-far here is = subst (λ z. set ys i z ≡ map f (take (i + 1) xs) ++ drop (i + 1) xs) (sym is) (map_over_more f xs ys i x within so-far here)
