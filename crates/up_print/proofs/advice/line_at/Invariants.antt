use Rattle.std.proofs.Common.{◌≡◌}
use Rattle.up_print.specs.Advice.{after_feeds}
use Rattle.up_print.proofs.advice.line_at.Given as goal

abbrev pub invariant-loop : goal.invariant-loop
invariant-loop l = l.rest ≡ after_feeds l.counter l.text
