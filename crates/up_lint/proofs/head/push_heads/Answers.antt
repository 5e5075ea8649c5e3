use Rattle.std.proofs.Common.{◌∙◌, sym}
use Rattle.up_lint.proofs.Heads.{heads_finished, heads_more, heads_none, heads_refused}
use Rattle.up_lint.proofs.head.push_heads.Goals as goal

pub returns-then-at_end : goal.returns-then-at_end
returns-then-at_end c = heads_finished c.args.over c.heads.left c.heads.lexer c.heads.heads.items (sym c.if-at_end.ensures) ∙ c.heads.invariant

pub returns-in-None : goal.returns-in-None
returns-in-None c = heads_refused c.args.over c.heads.left c.heads.lexer c.heads.heads.items c.heads-test.true (sym c.if-at_end.ensures) (rw c.in-None.is at c.in_ok-head.ensures) ∙ c.heads.invariant

pub heads-preserved : goal.heads-preserved
heads-preserved c =
    rw c.in_ok-push-in-Some.ensures.items
    (heads_more c.args.over c.heads.left c.heads.lexer c.read_head.new.lexer c.in-Some.head c.heads.heads.items c.heads-test.true (sym c.if-at_end.ensures) (rw c.in-Some.is at c.in_ok-head.ensures) ∙ c.heads.invariant)

pub returns : goal.returns
returns c = heads_none c.args.over c.heads.left c.heads.lexer c.heads.heads.items c.heads-test.false ∙ c.heads.invariant
