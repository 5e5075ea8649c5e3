-- A text without a # has no comments.
use Rattle.std.proofs.Common.{◌≡◌, ℕ, Bool, true, false, cond, ◌==◌, List, [], ◌∷◌, ◌++◌, refl, ap₂}
use Rattle.std.specs.List.{list_any}
use Rattle.std.proofs.lemmas.Bool.{or_parts, true≢false}
use Rattle.up_text.specs.Comments.{bytes_outside_comments, unless_comment, without_comments}
use Rattle.up_text.specs.Tokens.{Mode, Outside, Comment, Escaped, Continued, Quoted, QuotedEscape, is_backslash, is_blank, is_hash, is_line_feed, is_quote, mode_after}

-- whether the next byte belongs to a comment that is open
abbrev in_comment : Mode → Bool
in_comment Comment = true
in_comment other = false

outside_after : (joined : Bool) (byte : ℕ) (blank backslash feed quote : Bool)
    → in_comment (cond blank (Outside joined) (cond false Comment (cond backslash (cond feed (Continued joined) Escaped) (cond quote (Quoted byte false) (Outside false))))) ≡ false
outside_after joined byte true backslash feed quote = refl
outside_after joined byte false true true quote = refl
outside_after joined byte false true false quote = refl
outside_after joined byte false false feed true = refl
outside_after joined byte false false feed false = refl

quoted_after : (quote : ℕ) (joined end feed blank backslash begins : Bool)
    → in_comment (cond end (Outside false) (cond feed (Quoted quote true) (cond blank (Quoted quote joined) (cond backslash (cond begins (Quoted quote joined) (QuotedEscape quote)) (Quoted quote false))))) ≡ false
quoted_after quote joined true feed blank backslash begins = refl
quoted_after quote joined false true blank backslash begins = refl
quoted_after quote joined false false true backslash begins = refl
quoted_after quote joined false false false true true = refl
quoted_after quote joined false false false true false = refl
quoted_after quote joined false false false false begins = refl

-- a byte other than # opens no comment, and belongs to none
opens_none : (mode : Mode) (byte : ℕ) (text : List ℕ) → in_comment mode ≡ false → is_hash byte ≡ false → in_comment (mode_after mode byte text) ≡ false
opens_none (Outside joined) byte text outside plain =
    rw plain (outside_after joined byte (is_blank byte) (is_backslash byte) _ (is_quote byte))
opens_none Comment byte text outside plain = absurd (true≢false outside)
opens_none Escaped byte text outside plain = refl
opens_none (Continued joined) byte text outside plain = refl
opens_none (Quoted quote joined) byte text outside plain =
    quoted_after quote joined (byte == quote) (is_line_feed byte) (is_blank byte) (is_backslash byte) _
opens_none (QuotedEscape quote) byte text outside plain = refl

is_kept : (mode : Mode) (byte : ℕ) → in_comment mode ≡ false → is_hash byte ≡ false → unless_comment mode byte ≡ byte ∷ []
is_kept (Outside joined) byte outside plain = rw plain refl
is_kept Comment byte outside plain = absurd (true≢false outside)
is_kept Escaped byte outside plain = refl
is_kept (Continued joined) byte outside plain = refl
is_kept (Quoted quote joined) byte outside plain = refl
is_kept (QuotedEscape quote) byte outside plain = refl

all_kept : (mode : Mode) (text : List ℕ) → in_comment mode ≡ false → list_any is_hash text ≡ false → bytes_outside_comments mode text ≡ text
all_kept mode [] outside plain = refl
all_kept mode (byte ∷ text) outside plain =
    let parts = or_parts (is_hash byte) (list_any is_hash text) plain in
    ap₂ (λ (kept rest : List ℕ). kept ++ rest) (is_kept mode byte outside parts.0)
    (all_kept (mode_after mode byte text) text (opens_none mode byte text outside parts.0) parts.1)

-- so it is the same without its comments
pub no_comments : (text : List ℕ) → list_any (λ byte. byte == 35) text ≡ false → without_comments text ≡ text
unfolding without_comments is_hash
no_comments text plain = all_kept (Outside false) text refl plain
