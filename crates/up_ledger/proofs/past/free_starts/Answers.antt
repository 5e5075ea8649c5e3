use Rattle.std.proofs.Common.{◌∙◌, ◌+◌, ap, sym, drop, false}
use Rattle.up_marks.specs.Triggers.{kept_by}
use Rattle.up_ledger.specs.Holding.{freed, all_changed, all_kept, as_holders}
use Rattle.up_ledger.proofs.Loading.{starts-left}
use Rattle.up_ledger.proofs.past.free_starts.Goals as goal

pub loop-start-preserved : goal.loop-start-preserved
loop-start-preserved c =
    let i = c.loop-start.start-index in
    let starts = c.args.starts.now in
    let events = c.loop-start.events in
    ap (all_changed (freed false) (as_holders (all_kept (drop (i + 1) starts))))
    (c.free_ids.ensures ∙ ap (λ ids. all_changed (freed false) (as_holders ids) events) (c.as_slice.ensures ∙ c.in_ok-kept.ensures ∙ ap kept_by c.start-item.is))
    ∙ sym (starts-left (freed false) starts i c.start-item.result events c.loop-start-test.true) ∙ c.loop-start.invariant
