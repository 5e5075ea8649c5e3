-- The bytes of a text that belong to no comment, one after another.
use Rattle.std.proofs.Common.{◌≡◌, ℕ, ◌≤◌, Bool, true, false, cond, ◌==◌, List, [], ◌∷◌, ◌++◌, length, refl, sym, ◌∙◌, ap, arith, append_assoc, length-append}
use Rattle.up_text.specs.declared.lexer.comments.Standing.{Standing}
use Rattle.up_text.specs.Tokens.{Mode, Outside, Comment, Escaped, Continued, Quoted, QuotedEscape, is_backslash, is_blank, is_hash, is_line_feed, is_quote, mode_after}
use Rattle.up_pattern.specs.Lists.{begins}
use Rattle.up_text.specs.Comments.{is_comment, unless_comment, mode_of, bytes_outside_comments, without_joining, without_comments}

-- what is joined makes no other mode but for what is joined
outside_same : (joined : Bool) (byte : ℕ) (blank hash backslash feed quote : Bool)
    → without_joining (cond blank (Outside false) (cond hash Comment (cond backslash (cond feed (Continued false) Escaped) (cond quote (Quoted byte false) (Outside false)))))
    ≡ without_joining (cond blank (Outside joined) (cond hash Comment (cond backslash (cond feed (Continued joined) Escaped) (cond quote (Quoted byte false) (Outside false)))))
outside_same joined byte true hash backslash feed quote = refl
outside_same joined byte false true backslash feed quote = refl
outside_same joined byte false false true true quote = refl
outside_same joined byte false false true false quote = refl
outside_same joined byte false false false feed quote = refl

quoted_same : (quote : ℕ) (joined end feed blank backslash begins : Bool)
    → without_joining (cond end (Outside false) (cond feed (Quoted quote true) (cond blank (Quoted quote false) (cond backslash (cond begins (Quoted quote false) (QuotedEscape quote)) (Quoted quote false)))))
    ≡ without_joining (cond end (Outside false) (cond feed (Quoted quote true) (cond blank (Quoted quote joined) (cond backslash (cond begins (Quoted quote joined) (QuotedEscape quote)) (Quoted quote false)))))
quoted_same quote joined true feed blank backslash begins = refl
quoted_same quote joined false true blank backslash begins = refl
quoted_same quote joined false false true backslash begins = refl
quoted_same quote joined false false false true true = refl
quoted_same quote joined false false false true false = refl
quoted_same quote joined false false false false begins = refl

after_same : (mode : Mode) (byte : ℕ) (text : List ℕ) → without_joining (mode_after (without_joining mode) byte text) ≡ without_joining (mode_after mode byte text)
after_same (Outside joined) byte text = outside_same joined byte (is_blank byte) (is_hash byte) (is_backslash byte) (begins is_line_feed text) (is_quote byte)
after_same Comment byte text = refl
after_same Escaped byte text = refl
after_same (Continued joined) byte text = refl
after_same (Quoted quote joined) byte text = quoted_same quote joined (byte == quote) (is_line_feed byte) (is_blank byte) (is_backslash byte) (begins is_line_feed text)
after_same (QuotedEscape quote) byte text = refl

kept_same : (mode : Mode) (byte : ℕ) → unless_comment (without_joining mode) byte ≡ unless_comment mode byte
kept_same (Outside joined) byte = refl
kept_same Comment byte = refl
kept_same Escaped byte = refl
kept_same (Continued joined) byte = refl
kept_same (Quoted quote joined) byte = refl
kept_same (QuotedEscape quote) byte = refl

-- so what is joined makes no comment
joined_same : (mode : Mode) (text : List ℕ) → bytes_outside_comments (without_joining mode) text ≡ bytes_outside_comments mode text
joined_same mode [] = refl
joined_same mode (byte ∷ text) =
    ap (λ bytes. bytes ++ bytes_outside_comments (mode_after (without_joining mode) byte text) text) (kept_same mode byte)
    ∙ ap (λ bytes. unless_comment mode byte ++ bytes)
    (sym (joined_same (mode_after (without_joining mode) byte text) text)
    ∙ ap (λ m. bytes_outside_comments m text) (after_same mode byte text)
    ∙ joined_same (mode_after mode byte text) text)

-- one byte more
pub one_byte : (bytes : List ℕ) (standing next : Standing) (byte : ℕ) (rest : List ℕ) → mode_of next ≡ without_joining (mode_after (mode_of standing) byte rest)
    → (bytes ++ unless_comment (mode_of standing) byte) ++ bytes_outside_comments (mode_of next) rest ≡ bytes ++ bytes_outside_comments (mode_of standing) (byte ∷ rest)
one_byte bytes standing next byte rest is =
    append_assoc bytes (unless_comment (mode_of standing) byte) (bytes_outside_comments (mode_of next) rest)
    ∙ ap (λ later. bytes ++ (unless_comment (mode_of standing) byte ++ later)) (ap (λ m. bytes_outside_comments m rest) is ∙ joined_same (mode_after (mode_of standing) byte rest) rest)

kept_length : (comment : Bool) (byte : ℕ) → length (cond comment [] (byte ∷ [])) ≤ 1
kept_length true byte = omega arith
kept_length false byte = omega arith

uncommented_length : (mode : Mode) (text : List ℕ) → length (bytes_outside_comments mode text) ≤ length text
uncommented_length mode [] = omega arith
uncommented_length mode (byte ∷ text) =
    omega (arith, length-append (unless_comment mode byte) (bytes_outside_comments (mode_after mode byte text) text), kept_length (is_comment mode byte) byte, uncommented_length (mode_after mode byte text) text)

-- a text has no fewer bytes than without its comments
pub no_longer : (text : List ℕ) → length (without_comments text) ≤ length text
unfolding without_comments
no_longer text = uncommented_length (Outside false) text
