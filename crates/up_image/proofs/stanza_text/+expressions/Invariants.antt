use Rattle.up_expr.specs.Flat.{size}
use Rattle.up_image.proofs.stanza_text.+expressions.Given as goal

-- a side is smaller
abbrev pub decreases-put_expr : goal.decreases-put_expr
decreases-put_expr l = size l.branch.now
