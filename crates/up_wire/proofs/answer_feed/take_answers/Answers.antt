use Rattle.std.proofs.Common.{◌∙◌, sym, ap, refl, length, arith}
use Rattle.up_wire.specs.Answers.{EndsWith, Opens}
use Rattle.up_wire.proofs.Pending.{open_answers, begins_stops, pending_nothing}
use Rattle.up_wire.proofs.answer_feed.take_answers.Goals as goal

pub returns-then-left-len-clause-taken : goal.returns-then-left-len-clause-taken
returns-then-left-len-clause-taken c total h =
    let opened : Opens total c.args.text.now.items c.deref.result.now = rw c.deref.ensures.value h in
    let ahead = rw c.in-Ok-Open.field-0-is at (c.in-Ok-Open.ensures.ahead total opened) in
    let whole = rw c.in-Ok-Open.field-0-is at c.in-Ok-Open.ensures.whole in
    let same = whole (omega (arith, c.if-left-len.true, c.len.ensures, c.deref.ensures.len, ap length c.deref.ensures.value)) ∙ c.deref.ensures.value in
    rw c.new.ensures.items (open_answers total c.join_full.new.text.items c.in-Ok-Open.left.now c.args.rest.now.items ahead.0 ahead.1 (sym same))

pub returns-in_ok-rest-in-Ok-Open-clause-taken : goal.returns-in_ok-rest-in-Ok-Open-clause-taken
returns-in_ok-rest-in-Ok-Open-clause-taken c total h =
    let opened : Opens total c.args.text.now.items c.deref.result.now = rw c.deref.ensures.value h in
    let ahead = rw c.in-Ok-Open.field-0-is at (c.in-Ok-Open.ensures.ahead total opened) in
    rw c.new-in-Ok-Open.ensures.items (open_answers total c.join_full.new.text.items c.in-Ok-Open.left.now c.in_ok-rest-in-Ok-Open.field-0.items ahead.0 ahead.1 c.in_ok-rest-in-Ok-Open.ensures.items)

pub returns-in-Ok-clause-taken : goal.returns-in-Ok-clause-taken
returns-in-Ok-clause-taken c total h =
    let opened : Opens total c.args.text.now.items c.deref.result.now = rw c.deref.ensures.value h in
    let ahead = rw c.in-Ok-Last.field-0-is at (c.in-Ok-Last.ensures.ahead total opened) in
    let ends : EndsWith total c.deref-in-Ok-Last.result.now c.in-Ok-Last.payload.now c.in-Ok-Last.after.now = rw c.deref-in-Ok-Last.ensures.value ahead in
    (rw c.clear.ensures.items refl, rw (pending_nothing c.clear.new.self.items c.in-Ok.found.1.items c.clear.ensures.items) (c.in-Ok.ensures.frames total ends))

pub returns-in-Err-split_from-clause-refused : goal.returns-in-Err-split_from-clause-refused
returns-in-Err-split_from-clause-refused c total h =
    let opened : Opens total c.args.text.now.items c.deref.result.now = rw c.deref.ensures.value h in
    let ahead = rw c.in-Ok-Last.field-0-is at (c.in-Ok-Last.ensures.ahead total opened) in
    let ends : EndsWith total c.deref-in-Ok-Last.result.now c.in-Ok-Last.payload.now c.in-Ok-Last.after.now = rw c.deref-in-Ok-Last.ensures.value ahead in
    c.in-Err-split_from.ensures.fault total ends

pub returns-in-Err-clause-refused : goal.returns-in-Err-clause-refused
returns-in-Err-clause-refused c total h =
    let opened : Opens total c.args.text.now.items c.deref.result.now = rw c.deref.ensures.value h in
    begins_stops c.in-Err.fault total (c.in-Err.ensures.ahead total opened)
