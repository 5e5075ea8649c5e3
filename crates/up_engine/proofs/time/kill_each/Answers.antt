use Rattle.std.proofs.Common.{◌≡◌, ◌∙◌, ◌++◌, take, arith, add-one}
use Rattle.std.proofs.lemmas.List.{take_all}
use Rattle.up_book.specs.Keys.{instance_place}
use Rattle.up_engine.proofs.ClockLemmas.{instance_there, instances_length, killing_push}
use Rattle.up_cascade.proofs.KeyLemmas.{killed_there}
use Rattle.up_model.specs.Clock.{killing}
use Rattle.up_engine.proofs.time.kill_each.Goals as goal

pub loop-key-init : goal.loop-key-init
loop-key-init g c config c' places s known = s

pub loop-key-preserved : goal.loop-key-preserved
loop-key-preserved g c config c' places s known =
    let n = c.loop-key.key-index in
    let d = killing (take n places) ++ c' in
    let old = c.loop-key.invariant config c' places s known in
    let there = instance_there (instance_place config c') c.args.keys.now places n (record { job = 0; at = 0 }) known c.loop-key-test.true in
    rw (add-one, there.upto, killing_push) (c.in_ok-kill.ensures config d there.place old (killed_there config _ (take n places) c' ∙ there.is))

pub returns-clause-after : goal.returns-clause-after
returns-clause-after g c config c' places s known =
    let n = c.loop-key.key-index in
    let old = c.loop-key.invariant config c' places s known in
    let count = instances_length _ c.args.keys.now places known in
    let whole : take n places ≡ places = take_all n places (omega (arith, count)) in
    rw (← whole) old
