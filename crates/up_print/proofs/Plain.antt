-- Text without a byte that is escaped.
use Rattle.std.proofs.Common.{◌≡◌, ◌==◌, ◌||◌, ◌++◌, not, codes, if◌then◌else◌, ℕ, Bool, true, false, List, [], ◌∷◌, refl, ap, ◌∙◌}
use Rattle.std.proofs.lemmas.Bool.{and_parts}
use Rattle.std.specs.List.{flat_map, list_all}
use Rattle.up_print.specs.Lines.{escaped, is_plain}

plain_byte : (byte : ℕ) → is_plain byte ≡ true → escaped byte ≡ byte ∷ []
unfolding escaped
plain_byte byte plain = by_cases (byte == 34) (byte == 92) (byte == 10) (byte == 9) plain
  where
    by_cases : (a b c d : Bool) → not (a || b || c || d) ≡ true
        → (if a then codes "\\\"" else (if b then codes "\\\\" else (if c then codes "\\n" else (if d then codes "\\t" else byte ∷ [])))) ≡ byte ∷ []
    by_cases false false false false plain = refl
    by_cases true b c d plain = absurd (cc)
    by_cases false true c d plain = absurd (cc)
    by_cases false false true d plain = absurd (cc)
    by_cases false false false true plain = absurd (cc)

pub plain_bytes : (bytes : List ℕ) → list_all is_plain bytes ≡ true → flat_map escaped bytes ≡ bytes
plain_bytes [] plain = refl
plain_bytes (byte ∷ bytes) plain =
    let both = and_parts (is_plain byte) (list_all is_plain bytes) plain in
    ap (λ front. front ++ flat_map escaped bytes) (plain_byte byte both.0) ∙ ap (λ rest. byte ∷ rest) (plain_bytes bytes both.1)
