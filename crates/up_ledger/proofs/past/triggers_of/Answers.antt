use Rattle.std.proofs.Common.{◌∙◌, [], subst, sym, take, ◌+◌}
use Rattle.up_conf.specs.declared.job.JobDef.{JobDef}
use Rattle.up_marks.specs.Triggers.{Remembers}
use Rattle.up_ledger.specs.Remembering.{StartsRemember}
use Rattle.up_ledger.proofs.NewTables.{starts-more}
use Rattle.up_ledger.proofs.past.triggers_of.Goals as goal

pub loop-file-preserved : goal.loop-file-preserved
loop-file-preserved c places config =
    let jobs = c.args.jobs.now in
    let i = c.loop-file.file-index in
    let trigger = c.in_ok-trigger.trigger in
    let new = subst (λ (job : JobDef). Remembers places trigger job.start_on []) (c.job.ensures ∙ c.file-item.is) (c.in_ok-trigger.ensures places) in
    subst (λ items. StartsRemember places config [] items (take (i + 1) jobs)) (sym c.in_ok-push.ensures.items)
    (starts-more places config c.loop-file.triggers.items trigger jobs i c.file-item.result c.loop-file-test.true (c.loop-file.invariant places config) new)
