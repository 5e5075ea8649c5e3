use Rattle.std.proofs.Common.{◌≡◌, ◌∙◌, ◌+◌, sym, ap, ◌++◌, [], map, drop, arith, append-nil}
use Rattle.std.proofs.lemmas.List.{drop_all}
use Rattle.up_model.specs.Events.{events_at}
use Rattle.up_cascade.proofs.EventKeys.{key_there, keys_length}
use Rattle.up_cascade.proofs.EventLemmas.{key_events}
use Rattle.up_cascade.proofs.events.events_of.Goals as goal

pub loop-key-preserved : goal.loop-key-preserved
loop-key-preserved g c mode config c' places s given =
    let f = g.B.Book.event_place c.args.book.now c' in
    let there = key_there f c.args.keys.now places c.loop-key.key-index (record { key = 0 }) given c.loop-key-test.true in
    let found = c.event_at.ensures mode config c' there.place s there.is in
    c.in_ok-push_event.ensures (events_at (drop (c.loop-key.key-index + 1) places) c')
    ∙ ap (λ rest. map (λ event. event.now) c.loop-key.events.items ++ rest) (key_events f _ places c.loop-key.key-index c' _ there found)
    ∙ c.loop-key.invariant mode config c' places s given

pub returns : goal.returns
returns g c mode config c' places s given =
    let f = g.B.Book.event_place c.args.book.now c' in
    let count = keys_length f c.args.keys.now places given in
    let over : drop c.loop-key.key-index places ≡ [] = drop_all c.loop-key.key-index places (omega (arith, count)) in
    sym (append-nil _) ∙ ap (λ left. map (λ event. event.now) c.loop-key.events.items ++ events_at left c') (sym over) ∙ c.loop-key.invariant mode config c' places s given
