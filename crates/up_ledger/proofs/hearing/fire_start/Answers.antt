use Rattle.std.proofs.Common.{◌∙◌, ◌<◌, ap, sym, length, arith}
use Rattle.up_job.specs.Lists.{with_at}
use Rattle.up_ledger.proofs.Hearings.{on-ok, fires, start-old, start-new}
use Rattle.up_book.proofs.Lists.{set_with_at}
use Rattle.up_ledger.proofs.hearing.fire_start.Goals as goal

pub returns-clause-only : goal.returns-clause-only
returns-clause-only c =
    let triggers = c.args.starts.now.items in
    let within : c.args.job < length triggers = omega (arith, c.if-job-len.false, c.len.ensures) in
    on-ok c.fire.result (set_with_at (λ old. c.fire.new.self) c.args.job triggers c.index_mut.result.now within c.index_mut.ensures.value
    ∙ ap (λ t. with_at c.args.job (λ old. t) triggers) (sym (start-new c.args.job triggers c.fire.new.self within)))

pub returns-clause-fires : goal.returns-clause-fires
returns-clause-fires c =
    let triggers = c.args.starts.now.items in
    let within : c.args.job < length triggers = omega (arith, c.if-job-len.false, c.len.ensures) in
    fires c.fire.result _ _ c.index_mut.result.now c.fire.new.self c.args.condition.now
    (start-old c.args.job triggers c.index_mut.result.now within c.index_mut.ensures.value) (start-new c.args.job triggers c.fire.new.self within)
    c.fire.ensures.taken c.fire.ensures.kept c.fire.ensures.remembers
