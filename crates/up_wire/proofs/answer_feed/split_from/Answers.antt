use Rattle.std.proofs.Common.{drop}
use Rattle.up_wire.proofs.Pending.{first_answers, first_stops, begins_stops, end_begins}
use Rattle.up_wire.proofs.answer_feed.split_from.Goals as goal

pub returns-in-Ok-split_after-clause-frames : goal.returns-in-Ok-split_after-clause-frames
returns-in-Ok-split_after-clause-frames c total h =
    let read = rw c.in_ok-joined.ensures.items at c.in-Ok.ensures.answer in
    let found = c.in-Ok-split_after.ensures.frames in
    rw found.0 (first_answers total c.args.text.now c.args.payload.now c.args.after.now c.in-Ok-split_after.found.1.items c.in-Ok.first (drop 1 c.in-Ok-split_after.found.0.items) h.0 h.1 read found.1)

pub returns-in-Ok-clause-fault : goal.returns-in-Ok-clause-fault
returns-in-Ok-clause-fault c total h =
    let read = rw c.in_ok-joined.ensures.items at c.in-Ok.ensures.answer in
    first_stops c.in-Err-split_after.fault total c.args.text.now c.args.payload.now c.args.after.now c.in-Ok.first h.0 h.1 read c.in-Err-split_after.ensures.fault

pub returns-clause-fault : goal.returns-clause-fault
returns-clause-fault c total h =
    let refused = rw c.in_ok-joined.ensures.items at c.in-Err.ensures.answer in
    begins_stops c.in-Err.fault total (end_begins c.in-Err.fault total c.args.text.now c.args.payload.now c.args.after.now h.0 h.1 h.2 refused)
