use Rattle.std.proofs.Common.{ℕ, ◌≡◌, List, Option, Some, None, length, sym, arith, ◌∙◌}
use Rattle.std.proofs.lemmas.Bool.{false_from_ne_true}
use Rattle.std.proofs.lemmas.List.Sums.{position_or_len_is}
use Rattle.std.specs.List.{position_or_len}
use Rattle.std.specs.Prelude.{unwrap_or}
use Rattle.memchr.specs.Find.{IsFirstByte, is_byte2}
use Rattle.up_text.proofs.expansion.run_len.Goals as goal

-- the first byte that passes is found at its place, or else the length
place : (a b : ℕ) (bytes : List ℕ) (found : Option ℕ) → IsFirstByte (is_byte2 a b) bytes found → unwrap_or found (length bytes) ≡ position_or_len (is_byte2 a b) bytes
place a b bytes None none = sym (position_or_len_is (is_byte2 a b) bytes (length bytes) 0 (omega arith) (λ k below. false_from_ne_true _ (none k (omega arith) below)) (λ past. absurd (omega arith)))
place a b bytes (Some k) found = sym (position_or_len_is (is_byte2 a b) bytes k 0 (omega arith) (λ i below. false_from_ne_true _ (found.0.before i (omega arith) below)) (λ _. found.1))

pub returns : goal.returns
returns c = c.unwrap_or.ensures ∙ place 36 125 c.args.bytes.now c.memchr2.result c.memchr2.ensures
