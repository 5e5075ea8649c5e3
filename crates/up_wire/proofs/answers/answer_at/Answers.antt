use Rattle.std.proofs.Common.{◌++◌, refl}
use Rattle.up_wire.specs.Frames.{frame}
use Rattle.up_wire.specs.Answers.{Opens}
use Rattle.up_wire.proofs.Joining.{closes, opens_nothing}
use Rattle.up_wire.proofs.Pending.{end_begins}
use Rattle.up_wire.proofs.answers.answer_at.Goals as goal

pub returns-in-Open-clause-none : goal.returns-in-Open-clause-none
returns-in-Open-clause-none c =
    let first : Opens c.args.bytes.now c.new-text.result.items c.args.bytes.now = rw c.new-text.ensures.items (opens_nothing c.args.bytes.now) in
    let ahead = rw c.in-Open.is at (c.in_ok-join_full.ensures.ahead c.args.bytes.now first) in
    (c.join_full.new.text.items, c.in-Open.field-0.now, ahead.0, ahead.1)

pub returns-in-Ok-clause-some : goal.returns-in-Ok-clause-some
returns-in-Ok-clause-some c =
    let first : Opens c.args.bytes.now c.new-text.result.items c.args.bytes.now = rw c.new-text.ensures.items (opens_nothing c.args.bytes.now) in
    let ahead = rw c.in-Last.is at (c.in_ok-join_full.ensures.ahead c.args.bytes.now first) in
    closes c.args.bytes.now c.join_full.new.text.items (frame c.in-Last.payload.now ++ c.in-Last.after.now) c.in-Last.payload.now c.in-Last.after.now c.in-Ok.answer ahead.0 refl ahead.1 c.in-Ok.ensures.answer

pub returns-clause-fault : goal.returns-clause-fault
returns-clause-fault c =
    let first : Opens c.args.bytes.now c.new-text.result.items c.args.bytes.now = rw c.new-text.ensures.items (opens_nothing c.args.bytes.now) in
    let ahead = rw c.in-Last.is at (c.in_ok-join_full.ensures.ahead c.args.bytes.now first) in
    end_begins c.in-Err.fault c.args.bytes.now c.join_full.new.text.items c.in-Last.payload.now c.in-Last.after.now ahead.0 ahead.1 ahead.2 c.in-Err.ensures.answer
