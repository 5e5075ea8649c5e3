-- What holds of every pattern of a kind.
use Rattle.std.proofs.Common.{◌≡◌, ℕ, true, false, not, ◌&&◌, List, [], ◌∷◌, refl, ap, ◌∙◌}
use Rattle.std.specs.Prelude.{◌==◌}
use Rattle.std.specs.List.{list_any, list_all}
use Rattle.std.specs.Str.{bytes_eq}
use Rattle.std.proofs.lemmas.Bool.{and_parts, not-true, or_parts, eqb-false}
use Rattle.up_pattern.specs.declared.pattern.Symbol.TheVariants.{Bare}
use Rattle.up_pattern.specs.Matching.{items_match, star_from, is_wild}
use Rattle.up_pattern.specs.Pattern.{symbols, all_items, Run, Only, is_class, item_of, supported, glob}
use Rattle.up_pattern.proofs.ItemReading.{all_items-first, all_items-none}
use Rattle.up_pattern.proofs.Matches.{glob-supported, supported-is}
use Rattle.up_pattern.proofs.SetReading.{first-bare, first-none}

-- a byte that means itself
record Ordinary (byte : ℕ) : Type 0 where
  run : (byte == 42) ≡ false
  any : (byte == 63) ≡ false
  set : (byte == 91) ≡ false
  escape : (byte == 92) ≡ false

ordinary : (byte : ℕ) → not (is_wild byte) ≡ true → Ordinary byte
ordinary byte plain =
    let parts = or_parts _ _ (not-true _ plain) in
    let later = or_parts _ _ parts.1 in
    let last = or_parts _ _ later.1 in
    record { run = parts.0; any = later.0; set = last.0; escape = last.1 }

item-ordinary : (byte : ℕ) (after : List _) → Ordinary byte → item_of (Bare byte) after ≡ Only byte
item-ordinary byte after plain = rw (plain.set, plain.run, plain.any) refl

-- each byte is its item
items-ordinary : (byte : ℕ) (text : List ℕ) → Ordinary byte → all_items (byte ∷ text) ≡ Only byte ∷ all_items text
items-ordinary byte text plain =
    let item = item-ordinary byte (symbols text) plain in
    all_items-first (byte ∷ text) text (Bare byte) (symbols text) (first-bare (byte ∷ text) byte text refl (eqb-false byte 92 plain.escape)).0 (rw item refl)
    ∙ ap (λ found. found ∷ all_items text) item

classless-literal : (text : List ℕ) → list_all (λ byte. not (is_wild byte)) text ≡ true → list_any is_class (all_items text) ≡ false
classless-literal [] plain = ap (list_any is_class) (all_items-none [] (first-none [] refl))
classless-literal (byte ∷ text) plain =
    let parts = and_parts _ _ plain in
    ap (list_any is_class) (items-ordinary byte text (ordinary byte parts.0)) ∙ classless-literal text parts.1

matches-literal : (text bytes : List ℕ) → list_all (λ byte. not (is_wild byte)) text ≡ true → items_match (all_items text) bytes ≡ bytes_eq text bytes
matches-literal [] [] plain = ap (λ read. items_match read []) (all_items-none [] (first-none [] refl))
matches-literal [] (byte ∷ bytes) plain = ap (λ read. items_match read (byte ∷ bytes)) (all_items-none [] (first-none [] refl))
matches-literal (byte ∷ text) [] plain =
    ap (λ read. items_match read []) (items-ordinary byte text (ordinary byte (and_parts _ _ plain).0))
matches-literal (byte ∷ text) (other ∷ bytes) plain =
    let parts = and_parts _ _ plain in
    ap (λ read. items_match read (other ∷ bytes)) (items-ordinary byte text (ordinary byte parts.0))
    ∙ ap (λ b. (byte == other) && b) (matches-literal text bytes parts.1)

-- a pattern without special bytes matches itself alone
pub literal-supported : (pattern : List ℕ) → list_all (λ byte. not (is_wild byte)) pattern ≡ true → supported pattern ≡ true
literal-supported pattern plain = supported-is pattern ∙ ap not (classless-literal pattern plain)

pub literal-glob : (pattern bytes : List ℕ) → list_all (λ byte. not (is_wild byte)) pattern ≡ true → glob pattern bytes ≡ bytes_eq pattern bytes
literal-glob pattern bytes plain = glob-supported pattern bytes (literal-supported pattern plain) ∙ matches-literal pattern bytes plain

-- a * alone matches everything
items-run : all_items (42 ∷ []) ≡ Run ∷ []
unfolding all_items symbols
items-run = refl

star-nil : (bytes : List ℕ) → star_from (items_match []) bytes ≡ true
star-nil [] = refl
star-nil (byte ∷ bytes) = star-nil bytes

pub run-glob : (bytes : List ℕ) → glob (42 ∷ []) bytes ≡ true
run-glob bytes =
    let sound : supported (42 ∷ []) ≡ true = supported-is (42 ∷ []) ∙ ap (λ read. not (list_any is_class read)) items-run in
    glob-supported (42 ∷ []) bytes sound ∙ ap (λ read. items_match read bytes) items-run ∙ star-nil bytes
