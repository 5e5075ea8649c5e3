-- For the gate's time alone: with this answer a wrong body is refused sooner.
use Rattle.std.proofs.Common.{rules}
use Rattle.up_print.proofs.check.render_made.Goals as goal

pub returns-in_ok-push_counts-in-Ok : goal.returns-in_ok-push_counts-in-Ok
returns-in_ok-push_counts-in-Ok c = search rules
