-- What the texts that stand in each other say and mean, from one piece to the next.
use Rattle.std.proofs.Common.{◌≡◌, ℕ, zero, suc, Bool, true, false, cond, ◌==◌, List, [], ◌∷◌, ◌++◌, map, drop, Option, None, Some, option_map, is_some, refl, sym, ap, ◌∙◌}
use Rattle.std.proofs.lemmas.List.{append_assoc, append-nil}
use Rattle.up_value.specs.Bindings.{value_of}
use Rattle.up_text.specs.Expanding.{run_before, piece_before, piece_texts, meanings}
use Rattle.up_text.specs.Expansion.{Sign, Plain, Parts, Done, Byte, Key, innermost_text, outside, before, with_default, signs, texts_of, is_expandable, Expansion, Expands, Lacks, Malformed, then_expansion, usable_value, meaning}
use Rattle.up_text.specs.declared.expansion.Piece.{Piece}

-- one function after another
option_map-option_map : {A B C : Type 0} (f : B → C) (g : A → B) (o : Option A) → option_map f (option_map g o) ≡ option_map (λ x. f (g x)) o
option_map-option_map f g None = refl
option_map-option_map f g (Some x) = refl

option_map-same : {A : Type 0} (o : Option A) → option_map (λ x. x) o ≡ o
option_map-same None = refl
option_map-same (Some x) = refl

-- the bytes of a run stand before the innermost text
pub piece_texts_run : (depth : ℕ) (run : List ℕ) (later : List Sign) → texts_of depth (map (λ byte. Plain byte) run ++ later) ≡ option_map (run_before run) (texts_of depth later)
piece_texts_run depth [] later = sym (option_map-same (texts_of depth later))
piece_texts_run depth (byte ∷ run) later = ap (option_map (before (Byte byte))) (piece_texts_run depth run later) ∙ option_map-option_map (before (Byte byte)) (run_before run) (texts_of depth later)

pub then_expansion-assoc : (a b c : Expansion) → then_expansion (then_expansion a b) c ≡ then_expansion a (then_expansion b c)
then_expansion-assoc (Expands a) (Expands b) (Expands c) = ap Expands (append_assoc a b c)
then_expansion-assoc (Expands a) (Expands b) (Lacks key) = refl
then_expansion-assoc (Expands a) (Expands b) Malformed = refl
then_expansion-assoc (Expands a) (Lacks key) c = refl
then_expansion-assoc (Expands a) Malformed c = refl
then_expansion-assoc (Lacks key) b c = refl
then_expansion-assoc Malformed b c = refl

pub then_expansion-nothing : (a : Expansion) → then_expansion a (Expands []) ≡ a
then_expansion-nothing (Expands a) = ap Expands (append-nil a)
then_expansion-nothing (Lacks key) = refl
then_expansion-nothing Malformed = refl

pub nothing-then_expansion : (a : Expansion) → a ≡ then_expansion (Expands []) a
nothing-then_expansion (Expands a) = refl
nothing-then_expansion (Lacks key) = refl
nothing-then_expansion Malformed = refl

-- the innermost text and those round it
meanings-split : (env : List (List ℕ × List ℕ)) (texts : List Parts) → then_expansion (meaning env (innermost_text texts)) (meanings env (outside texts)) ≡ meanings env texts
meanings-split env [] = refl
meanings-split env (text ∷ outer) = refl

pub drop-outside : (n : ℕ) (texts : List Parts) → drop n (outside texts) ≡ drop (suc n) texts
drop-outside zero [] = refl
drop-outside (suc n) [] = refl
drop-outside n (text ∷ outer) = refl

-- what a part before the innermost text means
meanings-before : (env : List (List ℕ × List ℕ)) (front : Expansion) (texts : List Parts) → then_expansion (then_expansion front (meaning env (innermost_text texts))) (meanings env (outside texts)) ≡ then_expansion front (meanings env texts)
meanings-before env front texts = then_expansion-assoc front (meaning env (innermost_text texts)) (meanings env (outside texts)) ∙ ap (then_expansion front) (meanings-split env texts)

pub meanings_run : (env : List (List ℕ × List ℕ)) (run : List ℕ) (texts : List Parts) → meanings env (run_before run texts) ≡ then_expansion (Expands run) (meanings env texts)
meanings_run env [] texts = nothing-then_expansion (meanings env texts)
meanings_run env (byte ∷ run) texts =
    meanings-before env (Expands (byte ∷ [])) (run_before run texts)
    ∙ ap (then_expansion (Expands (byte ∷ []))) (meanings_run env run texts)
    ∙ sym (then_expansion-assoc (Expands (byte ∷ [])) (Expands run) (meanings env texts))

-- a key that is set
pub meanings_key : (env : List (List ℕ × List ℕ)) (key value : List ℕ) (texts : List Parts) → Some value ≡ value_of key env → meanings env (before (Key key) texts) ≡ then_expansion (Expands value) (meanings env texts)
meanings_key env key value texts is = rw (← is) (meanings-before env (Expands value) texts)

-- a key whose text isn't needed
pub meanings_default : (env : List (List ℕ × List ℕ)) (key : List ℕ) (emptied : Bool) (value : List ℕ) (texts : List Parts) → Some value ≡ usable_value emptied (value_of key env) → meanings env (with_default key emptied texts) ≡ then_expansion (Expands value) (meanings env (drop 1 texts))
meanings_default env key emptied value texts is =
    rw (← is) (meanings-before env (Expands value) (outside texts) ∙ ap (λ ts. then_expansion (Expands value) (meanings env ts)) (drop-outside 0 texts))

is_some-option_map : {A B : Type 0} (f : A → B) (o : Option A) → is_some (option_map f o) ≡ is_some o
is_some-option_map f None = refl
is_some-option_map f (Some x) = refl

-- whether a text is well formed, by its signs
pub expandable-signs : (text : List ℕ) → is_expandable text ≡ is_some (texts_of 0 (signs 0 text))
unfolding is_expandable
expandable-signs text = is_some-option_map innermost_text (texts_of 0 (signs 0 text))

-- a piece doesn't change whether the text is well formed
pub is_some-piece_texts : (depth deeper : ℕ) (piece : Piece) (later : List Sign) → is_some (piece_texts depth piece later (Some deeper)) ≡ is_some (texts_of deeper later)
is_some-piece_texts depth deeper piece later = is_some-option_map (piece_before depth piece) (texts_of deeper later)

-- at the end no text may be open
pub ended : (depth : ℕ) → is_some (texts_of depth []) ≡ (depth == 0)
ended depth = elim (depth == 0) as (λ b. is_some (cond b (Some (Done ∷ [])) None) ≡ b) [ true ↦ refl | false ↦ refl ]
