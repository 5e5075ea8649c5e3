-- For the gate's time alone: with this answer a wrong body is refused sooner.
use Rattle.std.proofs.Common.{rules}
use Rattle.up_text.proofs.lexer.comments.is_comment.Goals as goal

pub returns-in_default : goal.returns-in_default
returns-in_default c = search rules
