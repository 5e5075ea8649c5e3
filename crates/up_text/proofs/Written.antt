-- What is still to be written of a text while it is expanded.
use Rattle.std.proofs.Common.{◌≡◌, inr, ℕ, suc, ◌+◌, ◌-◌, ◌<◌, ◌≤◌, Bool, true, false, cond, ◌==◌, nat_lt, List, [], ◌∷◌, ◌++◌, length, drop, Option, None, Some, option_map, is_some, Result, Err, refl, sym, ap, ◌∙◌, subst, arith}
use Rattle.std.proofs.lemmas.Bool.{eqb-true, true≢false}
use Rattle.std.proofs.lemmas.Bool.Decides.{nat_tests}
use Rattle.std.proofs.lemmas.Option.{same_Some}
use Rattle.up_value.specs.Bindings.{value_of}
use Rattle.up_text.specs.Expanding.{Gives, run_before, piece_before, depth_after, texts_opened, meanings}
use Rattle.up_text.specs.Expansion.{Sign, Plain, Named, Braced, Opened, Closing, Wrong, Parts, Done, Byte, Key, Default, innermost_text, outside, before, with_default, signs, texts_of, is_expandable, Expansion, Expands, Lacks, Malformed, then_expansion, usable_value, value_or, meaning, expansion, expand}
use Rattle.up_text.specs.declared.expansion.Piece.{Piece}
use Rattle.up_text.specs.declared.expansion.Piece.TheVariants as piece
use Rattle.up_text.specs.declared.expansion.Expanded.{Expanded}
use Rattle.up_value.specs.declared.fault.TextFault.{TextFault}
use Rattle.up_value.specs.declared.fault.TextFault.TheVariants.{BadExpansion, Memory}
use Rattle.up_text.proofs.Nesting.{then_expansion-assoc, then_expansion-nothing, nothing-then_expansion, drop-outside}

-- the texts of a list have this length, if there are any
abbrev HasLength : ℕ → Option (List Parts) → Type 0
HasLength n None = Unit {0}
HasLength n (Some texts) = length texts ≡ n

HasLength-option_map : (f : List Parts → List Parts) (m n : ℕ) (o : Option (List Parts)) → ((texts : List Parts) → length texts ≡ m → length (f texts) ≡ n) → HasLength m o → HasLength n (option_map f o)
HasLength-option_map f m n None keeps h = tt
HasLength-option_map f m n (Some texts) keeps h = keeps texts h

length-before : (part : Parts → Parts) (n : ℕ) (texts : List Parts) → length texts ≡ n + 1 → length (before part texts) ≡ n + 1
length-before part n [] is = absurd (omega arith)
length-before part n (text ∷ outer) is = omega arith

length-with_default : (key : List ℕ) (emptied : Bool) (n : ℕ) (texts : List Parts) → length texts ≡ n + 1 + 1 → length (with_default key emptied texts) ≡ n + 1
length-with_default key emptied n [] is = absurd (omega arith)
length-with_default key emptied n (text ∷ []) is = absurd (omega arith)
length-with_default key emptied n (text ∷ around ∷ outer) is = omega arith

HasLength-when : (b : Bool) (n : ℕ) (o : Option (List Parts)) → HasLength n o → HasLength n (cond b o None)
HasLength-when true n o h = h
HasLength-when false n o h = tt

positive : (n : ℕ) → (n == 0) ≡ false → n ≡ n - 1 + 1
positive n is = grind (arith, nat_tests)

-- there is one text more than stand round the innermost
length-texts_of : (depth : ℕ) (later : List Sign) → HasLength (depth + 1) (texts_of depth later)
length-texts_of depth [] = elim (depth == 0) as (λ b. (depth == 0) ≡ b → HasLength (depth + 1) (cond b (Some (Done ∷ [])) None)) [
  | true ↦ λ is. let zero : depth ≡ 0 = eqb-true depth 0 is in omega arith
  | false ↦ λ _. tt
] refl
length-texts_of depth (Plain byte ∷ later) = HasLength-option_map (before (Byte byte)) (depth + 1) (depth + 1) (texts_of depth later) (length-before (Byte byte) depth) (length-texts_of depth later)
length-texts_of depth (Named key ∷ later) = HasLength-option_map (before (Key key)) (depth + 1) (depth + 1) (texts_of depth later) (length-before (Key key) depth) (length-texts_of depth later)
length-texts_of depth (Braced key ∷ later) = HasLength-when (nat_lt depth 16) (depth + 1) (option_map (before (Key key)) (texts_of depth later)) (HasLength-option_map (before (Key key)) (depth + 1) (depth + 1) (texts_of depth later) (length-before (Key key) depth) (length-texts_of depth later))
length-texts_of depth (Opened key emptied ∷ later) = HasLength-when (nat_lt depth 16) (depth + 1) (option_map (with_default key emptied) (texts_of (depth + 1) later)) (HasLength-option_map (with_default key emptied) (depth + 1 + 1) (depth + 1) (texts_of (depth + 1) later) (length-with_default key emptied depth) (length-texts_of (depth + 1) later))
length-texts_of depth (Closing ∷ later) =
    closing (depth == 0) refl (length-texts_of depth later) (length-texts_of (depth - 1) later)
  where
    closing : (b : Bool) → (depth == 0) ≡ b → HasLength (depth + 1) (texts_of depth later) → HasLength (depth - 1 + 1) (texts_of (depth - 1) later)
        → HasLength (depth + 1) (cond b (option_map (before (Byte 125)) (texts_of depth later)) (option_map (λ texts. Done ∷ texts) (texts_of (depth - 1) later)))
    closing true is here out = HasLength-option_map (before (Byte 125)) (depth + 1) (depth + 1) (texts_of depth later) (length-before (Byte 125) depth) here
    closing false is here out =
        let some : depth ≡ depth - 1 + 1 = positive depth is in
        HasLength-option_map (λ texts. Done ∷ texts) (depth - 1 + 1) (depth + 1) (texts_of (depth - 1) later) (λ texts l. omega arith) out
length-texts_of depth (Wrong ∷ later) = tt

-- what is still to be written: of the texts that are left all but the innermost, so many
pub record Remains (env : List (List ℕ × List ℕ)) (whole : Expansion) (out : List ℕ) (unneeded : ℕ) (left : Option (List Parts)) : Type 0 where
  pub texts : List Parts
  pub are : left ≡ Some texts
  pub means : whole ≡ then_expansion (Expands out) (meanings env (drop unneeded texts))

meanings-one : (env : List (List ℕ × List ℕ)) (texts : List Parts) → length texts ≡ 1 → meaning env (innermost_text texts) ≡ then_expansion (Expands []) (meanings env texts)
meanings-one env [] one = absurd (omega arith)
meanings-one env (text ∷ []) one = sym (ap (then_expansion (Expands [])) (then_expansion-nothing (meaning env text)) ∙ sym (nothing-then_expansion (meaning env text)))
meanings-one env (text ∷ around ∷ outer) one = absurd (omega arith)

-- before anything is written
pub remains-start : (text : List ℕ) (env : List (List ℕ × List ℕ)) → is_expandable text ≡ true → Remains env (expand text env) [] 0 (texts_of 0 (signs 0 text))
unfolding is_expandable expand
remains-start text env good = by_case (texts_of 0 (signs 0 text)) good (length-texts_of 0 (signs 0 text))
  where
    by_case : (o : Option (List Parts)) → is_some (option_map innermost_text o) ≡ true → HasLength 1 o → Remains env (expansion env (option_map innermost_text o)) [] 0 o
    by_case None good one = absurd (true≢false (sym good))
    by_case (Some texts) good one = record { texts = texts; are = refl; means = meanings-one env texts one }

-- the texts after a piece
beyond : (f : List Parts → List Parts) (o : Option (List Parts)) (texts : List Parts) → option_map f o ≡ Some texts → (later : List Parts) × (o ≡ Some later) × (f later ≡ texts)
beyond f None texts is = absurd (cc)
beyond f (Some later) texts is = (later, refl, same_Some (f later) texts is)

opened-depth : (depth : ℕ) (p : Piece) → depth_after depth p - depth ≡ texts_opened p
opened-depth depth (piece.Run run) = omega arith
opened-depth depth (piece.Named key) = omega arith
opened-depth depth (piece.Braced key) = omega arith
opened-depth depth (piece.Opened key emptied) = omega arith
opened-depth depth piece.Closing = omega arith
opened-depth depth piece.Wrong = omega arith

-- a needed piece gives these bytes
pub remains-given : (env : List (List ℕ × List ℕ)) (whole : Expansion) (out bytes : List ℕ) (depth kept deeper : ℕ) (p : Piece) (left after : Option (List Parts))
    → Remains env whole out (depth - kept) left → left ≡ option_map (piece_before depth p) after → depth ≤ kept → deeper ≡ depth_after depth p
    → ((texts : List Parts) → meanings env (piece_before depth p texts) ≡ then_expansion (Expands bytes) (meanings env (drop (texts_opened p) texts)))
    → Remains env whole (out ++ bytes) (deeper - depth) after
remains-given env whole out bytes depth kept deeper p left after h is needed goes gives =
    let later = beyond (piece_before depth p) after h.texts (sym is ∙ h.are) in
    let all : depth - kept ≡ 0 = omega arith in
    let opens : texts_opened p ≡ deeper - depth = sym (ap (λ n. n - depth) goes ∙ opened-depth depth p) in
    record {
      texts = later.0;
      are = later.1;
      means =
          h.means
          ∙ ap (λ n. then_expansion (Expands out) (meanings env (drop n h.texts))) all
          ∙ ap (λ texts. then_expansion (Expands out) (meanings env texts)) (sym later.2)
          ∙ ap (then_expansion (Expands out)) (gives later.0)
          ∙ sym (then_expansion-assoc (Expands out) (Expands bytes) (meanings env (drop (texts_opened p) later.0)))
          ∙ ap (λ n. then_expansion (Expands (out ++ bytes)) (meanings env (drop n later.0))) opens;
    }

drop-run : (n : ℕ) (run : List ℕ) (texts : List Parts) → drop (suc n) (run_before run texts) ≡ drop (suc n) texts
drop-run n [] texts = refl
drop-run n (byte ∷ run) texts = drop-outside n (run_before run texts) ∙ drop-run n run texts

-- a piece that isn't needed changes only how many texts aren't
drop-piece : (depth kept n : ℕ) (p : Piece) (texts : List Parts) → depth ≡ kept + suc n → drop (suc n) (piece_before depth p texts) ≡ drop (depth_after depth p - kept) texts
drop-piece depth kept n (piece.Run run) texts is = let e : suc n ≡ depth - kept = omega arith in drop-run n run.now texts ∙ ap (λ k. drop k texts) e
drop-piece depth kept n (piece.Named key) texts is = let e : suc n ≡ depth - kept = omega arith in drop-outside n texts ∙ ap (λ k. drop k texts) e
drop-piece depth kept n (piece.Braced key) texts is = let e : suc n ≡ depth - kept = omega arith in drop-outside n texts ∙ ap (λ k. drop k texts) e
drop-piece depth kept n (piece.Opened key emptied) texts is =
    let e : suc (suc n) ≡ depth + 1 - kept = omega arith in
    drop-outside n (outside texts) ∙ drop-outside (suc n) texts ∙ ap (λ k. drop k texts) e
drop-piece depth kept n piece.Closing texts is =
    let e : n ≡ depth - 1 - kept = omega arith in
    let some : (depth == 0) ≡ false = grind (arith, nat_tests) in
    rw some (ap (λ k. drop k texts) e)
drop-piece depth kept n piece.Wrong texts is = let e : suc n ≡ depth - kept = omega arith in ap (λ k. drop k texts) e

-- a piece that isn't needed
pub remains-unneeded : (env : List (List ℕ × List ℕ)) (whole : Expansion) (out : List ℕ) (depth kept deeper : ℕ) (p : Piece) (left after : Option (List Parts))
    → Remains env whole out (depth - kept) left → left ≡ option_map (piece_before depth p) after → kept < depth → deeper ≡ depth_after depth p
    → Remains env whole out (deeper - kept) after
remains-unneeded env whole out depth kept deeper p left after h is unneeded goes =
    let later = beyond (piece_before depth p) after h.texts (sym is ∙ h.are) in
    let n : ℕ = depth - kept - 1 in
    let e : depth - kept ≡ suc n = omega arith in
    let at : depth ≡ kept + suc n = omega arith in
    record {
      texts = later.0;
      are = later.1;
      means =
          h.means
          ∙ ap (λ k. then_expansion (Expands out) (meanings env (drop k h.texts))) e
          ∙ ap (λ texts. then_expansion (Expands out) (meanings env (drop (suc n) texts))) (sym later.2)
          ∙ ap (λ texts. then_expansion (Expands out) (meanings env texts)) (drop-piece depth kept n p later.0 at)
          ∙ ap (λ k. then_expansion (Expands out) (meanings env (drop (k - kept) later.0))) (sym goes);
    }

then_expansion-memory : (a b : Expansion) → Gives a (Err Memory) → Gives b (Err Memory) → Gives (then_expansion a b) (Err Memory)
then_expansion-memory (Expands a) (Expands b) x y = inr refl
then_expansion-memory (Expands a) (Lacks key) x y = inr refl
then_expansion-memory (Expands a) Malformed x y = y
then_expansion-memory (Lacks key) b x y = inr refl
then_expansion-memory Malformed b x y = x

value_or-memory : (value : Option (List ℕ)) (other : Expansion) → Gives other (Err Memory) → Gives (value_or value other) (Err Memory)
value_or-memory None other h = h
value_or-memory (Some value) other h = inr refl

meaning-memory : (env : List (List ℕ × List ℕ)) (parts : Parts) → Gives (meaning env parts) (Err Memory)
meaning-memory env Done = inr refl
meaning-memory env (Byte byte more) = then_expansion-memory (Expands (byte ∷ [])) (meaning env more) (inr refl) (meaning-memory env more)
meaning-memory env (Key key more) = then_expansion-memory (value_or (value_of key env) (Lacks key)) (meaning env more) (value_or-memory (value_of key env) (Lacks key) (inr refl)) (meaning-memory env more)
meaning-memory env (Default key emptied text more) =
    then_expansion-memory (value_or (usable_value emptied (value_of key env)) (meaning env text)) (meaning env more) (value_or-memory (usable_value emptied (value_of key env)) (meaning env text) (meaning-memory env text)) (meaning-memory env more)

-- a well formed text may be refused for memory
pub gives_memory : (text : List ℕ) (env : List (List ℕ × List ℕ)) (result : Result Expanded TextFault) → is_expandable text ≡ true → result ≡ Err Memory → Gives (expand text env) result
unfolding is_expandable expand
gives_memory text env result good is = subst (Gives (expand text env)) (sym is) (by_case (option_map innermost_text (texts_of 0 (signs 0 text))) good)
  where
    by_case : (o : Option Parts) → is_some o ≡ true → Gives (expansion env o) (Err Memory)
    by_case None good = absurd (true≢false (sym good))
    by_case (Some parts) good = meaning-memory env parts

-- a malformed text is refused
pub gives_malformed : (text : List ℕ) (env : List (List ℕ × List ℕ)) → is_expandable text ≡ false → Gives (expand text env) (Err BadExpansion)
unfolding is_expandable expand
gives_malformed text env bad = by_case (option_map innermost_text (texts_of 0 (signs 0 text))) bad
  where
    by_case : (o : Option Parts) → is_some o ≡ false → Gives (expansion env o) (Err BadExpansion)
    by_case None bad = refl
    by_case (Some parts) bad = absurd (true≢false bad)
