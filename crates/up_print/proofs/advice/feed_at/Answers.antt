use Rattle.std.proofs.Common.{ℕ, ◌≡◌, List, Option, Some, None, length, sym, arith, ◌∙◌}
use Rattle.std.proofs.lemmas.Bool.{false_from_ne_true}
use Rattle.std.proofs.lemmas.List.Sums.{position_or_len_is}
use Rattle.std.specs.List.{position_or_len}
use Rattle.std.specs.Prelude.{unwrap_or}
use Rattle.memchr.specs.Find.{IsFirstByte, is_byte}
use Rattle.up_text.specs.Tokens.{is_line_feed}
use Rattle.up_print.proofs.advice.feed_at.Goals as goal

-- the first byte that passes is found at its place, or else the length
place : (byte : ℕ) (bytes : List ℕ) (found : Option ℕ) → IsFirstByte (is_byte byte) bytes found → unwrap_or found (length bytes) ≡ position_or_len (is_byte byte) bytes
place byte bytes None none = sym (position_or_len_is (is_byte byte) bytes (length bytes) 0 (omega arith) (λ k below. false_from_ne_true _ (none k (omega arith) below)) (λ past. absurd (omega arith)))
place byte bytes (Some k) found = sym (position_or_len_is (is_byte byte) bytes k 0 (omega arith) (λ i below. false_from_ne_true _ (found.0.before i (omega arith) below)) (λ _. found.1))

pub returns-clause-first : goal.returns-clause-first
unfolding is_line_feed
returns-clause-first c = c.unwrap_or.ensures ∙ place 10 c.args.text.now c.memchr.result c.memchr.ensures
