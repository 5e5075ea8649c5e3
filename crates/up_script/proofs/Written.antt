-- The lines of a script, one input more.
use Rattle.std.proofs.Common.{◌≡◌, ℕ, ◌+◌, ◌-◌, ◌≤◌, true, false, List, ◌∷◌, ◌++◌, length, drop, slice_get, Some, refl, sym, ap, ◌∙◌, rules, append_assoc, arith}
use Rattle.std.specs.Prelude.{codes}
use Rattle.std.proofs.lemmas.List.{drop_all, drop_more}
use Rattle.std.proofs.lemmas.Option.{slice_get_within, get_or_from_slice_get}
use Rattle.up_model.specs.declared.input.Input.{Input}
use Rattle.up_script.specs.Written.{is_turn, script_after, statement, turns_line}

-- what is left begins with the input at its place
pub from_here : (xs : List Input) (i : ℕ) (x : Input) → slice_get xs i ≡ Some x → drop i xs ≡ x ∷ drop (i + 1) xs
from_here xs i x here = rw (drop_more xs i x (slice_get_within xs i x here), get_or_from_slice_get xs i x x here) refl

-- a turn joins those before it
pub turn_more : (xs : List Input) (i begun : ℕ) (x : Input) → begun ≤ i → slice_get xs i ≡ Some x → is_turn x ≡ true → script_after (i - begun) (drop i xs) ≡ script_after (i + 1 - begun) (drop (i + 1) xs)
unfolding script_after
turn_more xs i begun x within here is =
    let more : i - begun + 1 ≡ i + 1 - begun = omega arith in
    rw (from_here xs i x here) (rw is (rw more refl))

-- another input has a line of its own, after those
pub statement_more : (xs : List Input) (i turns : ℕ) (x : Input) → slice_get xs i ≡ Some x → is_turn x ≡ false → script_after turns (drop i xs) ≡ turns_line turns ++ statement x ++ codes "\n" ++ script_after 0 (drop (i + 1) xs)
unfolding script_after
statement_more xs i turns x here is = rw (from_here xs i x here) (rw is refl)

-- a line more was written of what is left
pub line_more : (before turns said left rest whole : List ℕ) → left ≡ turns ++ said ++ codes "\n" ++ rest → before ++ left ≡ whole → (((before ++ turns) ++ said) ++ codes "\n") ++ rest ≡ whole
line_more before turns said left rest whole is same = search (rules, append_assoc) ∙ ap (λ more. before ++ more) (sym is) ∙ same

-- at the end the turns are left that were not written
pub all_said : (xs : List Input) (i begun : ℕ) → length xs ≤ i → i ≤ length xs → script_after (i - begun) (drop i xs) ≡ turns_line (length xs - begun)
unfolding script_after
all_said xs i begun past within =
    let at : i ≡ length xs = omega (arith, past, within) in
    rw (drop_all i xs past) (rw at refl)
