use Rattle.std.proofs.Common.{inl, inr}
use Rattle.up_daemon.proofs.work.start.Goals as goal

pub returns-in-Ok-clause-started : goal.returns-in-Ok-clause-started
returns-in-Ok-clause-started g c = inl (c.in-Ok.pid, c.answer_of.ensures, c.in-Ok.ensures.reports)

pub returns-in-Err-clause-started : goal.returns-in-Err-clause-started
returns-in-Err-clause-started g c = inr (c.answer_of-in-Err.ensures, c.in-Err.ensures.reports)
