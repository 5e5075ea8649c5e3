use Rattle.std.proofs.Common.{◌∙◌, ap, not}
use Rattle.up_text.proofs.Gaps.{at_end-read, inside-unfinished}
use Rattle.up_text.proofs.lexer.Lexer.at_end.Goals as goal

pub returns-then-not-self : goal.returns-then-not-self
returns-then-not-self c =
    let at = c.self.inside in
    rw (← c.self.view_is) (c.is_empty.ensures ∙ at_end-read at.inside at.rest.now _ at.line _ at.parens at.depth c.if-not-self.true (c.after_gap.ensures.passed at.parens) c.after_gap.ensures.ends)

pub returns-else-not-self : goal.returns-else-not-self
returns-else-not-self c =
    let at = c.self.inside in
    rw (← c.self.view_is) (ap not c.if-not-self.false ∙ inside-unfinished at.inside at.rest.now at.line at.parens at.depth c.if-not-self.false)
