-- The words of a text, one after another.
use Rattle.std.proofs.Common.{◌≡◌, ℕ, ◌<◌, List, [], ◌∷◌, ◌++◌, length, sym, ap, ◌∙◌, arith, append_assoc, append-nil}
use Rattle.up_text.specs.Lexer.{BeginsWord}
use Rattle.up_text.specs.Scripts.{words_in}

-- a word more
pub words_more : (words : List (List ℕ)) (text word rest : List ℕ) → BeginsWord text word rest → 0 < length word → (words ++ word ∷ []) ++ words_in rest ≡ words ++ words_in text
words_more words text [] rest begins some = absurd (omega (arith, some))
words_more words text (byte ∷ word) rest begins some = append_assoc words ((byte ∷ word) ∷ []) (words_in rest) ∙ ap (λ ws. words ++ ws) (sym begins)

-- and no more
pub words_end : (words : List (List ℕ)) (text word rest : List ℕ) → BeginsWord text word rest → length word ≡ 0 → words ≡ words ++ words_in text
words_end words text [] rest begins none = sym (ap (λ ws. words ++ ws) begins ∙ append-nil words)
words_end words text (byte ∷ word) rest begins some = absurd (omega (arith, some))
