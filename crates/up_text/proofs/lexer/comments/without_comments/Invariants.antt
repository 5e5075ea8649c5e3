use Rattle.std.proofs.Common.{◌≡◌, ◌++◌, length}
use Rattle.up_text.specs.Comments.{mode_of, bytes_outside_comments, without_comments}
use Rattle.up_text.proofs.lexer.comments.without_comments.Given as goal

-- the bytes so far stand before those that are left
abbrev pub invariant-bytes : goal.invariant-bytes
invariant-bytes l = l.bytes.items ++ bytes_outside_comments (mode_of l.standing) l.rest ≡ without_comments l.text

abbrev pub decreases-bytes : goal.decreases-bytes
decreases-bytes l = length l.rest
