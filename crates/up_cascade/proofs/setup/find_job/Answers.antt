use Rattle.std.proofs.Common.{◌∙◌, sym, arith}
use Rattle.up_cascade.proofs.SetupLemmas.{found-there, none-there, none-beyond}
use Rattle.up_cascade.proofs.setup.find_job.Goals as goal

pub returns-then-at-jobs-clause-none : goal.returns-then-at-jobs-clause-none
returns-then-at-jobs-clause-none c =
    none-beyond c.args.jobs.now c.args.name.now c.position-at.result c.position-at.ensures c.if-at-jobs.true

pub returns-then-is_called-clause-some : goal.returns-then-is_called-clause-some
returns-then-is_called-clause-some c =
    let called = sym c.is_called.ensures ∙ c.if-is_called.true in
    let found = found-there c.args.jobs.now c.args.name.now c.position-at.result c.index-jobs-at.result c.requires c.position-at.ensures (omega (arith, c.if-at-jobs.false)) c.index-jobs-at.is called in
    (found.0, found.1.0, found.1.1)

pub returns-else-is_called-clause-none : goal.returns-else-is_called-clause-none
returns-else-is_called-clause-none c =
    let differs = sym c.is_called.ensures ∙ c.if-is_called.false in
    none-there c.args.jobs.now c.args.name.now c.position-at.result c.index-jobs-at.result c.requires c.position-at.ensures (omega (arith, c.if-at-jobs.false)) c.index-jobs-at.is differs
