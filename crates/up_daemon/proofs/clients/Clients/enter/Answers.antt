use Rattle.std.proofs.Common.{◌<◌, ◌≡◌, sym, length, get_or, arith}
use Rattle.up_daemon.specs.Peers.{IsAtRest}
use Rattle.up_daemon.proofs.Seats.{entered_at, entered_numbers, same_at, all_more}
use Rattle.up_daemon.proofs.clients.Clients.enter.Goals as goal

pub returns-in-Some-clause-entered : goal.returns-in-Some-clause-entered
returns-in-Some-clause-entered c =
    let before = c.loop-index.invariant.same in
    let client = c.index_mut.result.now in
    let within : c.loop-index.index < length c.args.self.now.list.items = omega (arith, c.loop-index-test.true, c.len-index-end.ensures, c.args.self.now.list.ok.0) in
    let value : get_or c.args.self.now.list.items c.loop-index.index client ≡ client = sym (rw before at c.index_mut.ensures.value) in
    rw before (entered_at c.args.id c.in-Some.request c.args.self.now.list.items c.loop-index.index client c.enter.new.self within c.loop-index.invariant.rest (rw value c.in-Some.ensures))

pub loop-index-preserved : goal.loop-index-preserved
loop-index-preserved c =
    let before = c.loop-index.invariant in
    let client = c.index_mut.result.now in
    let within : c.loop-index.index < length c.args.self.now.list.items = omega (arith, c.loop-index-test.true, c.len-index-end.ensures, c.args.self.now.list.ok.0) in
    let value : get_or c.args.self.now.list.items c.loop-index.index client ≡ client = sym (rw before.same at c.index_mut.ensures.value) in
    record { same = rw before.same (same_at c.args.self.now.list.items c.loop-index.index client c.enter.new.self c.in_default.ensures.0 value); rest = all_more IsAtRest c.args.self.now.list.items c.loop-index.index client within before.rest (rw value c.in_default.ensures.1) }

pub returns-in-Some-clause-numbers : goal.returns-in-Some-clause-numbers
returns-in-Some-clause-numbers c =
    let before = c.loop-index.invariant.same in
    let client = c.index_mut.result.now in
    let within : c.loop-index.index < length c.args.self.now.list.items = omega (arith, c.loop-index-test.true, c.len-index-end.ensures, c.args.self.now.list.ok.0) in
    let value : get_or c.args.self.now.list.items c.loop-index.index client ≡ client = sym (rw before at c.index_mut.ensures.value) in
    rw before (entered_numbers c.args.id c.in-Some.request _ _ (entered_at c.args.id c.in-Some.request c.args.self.now.list.items c.loop-index.index client c.enter.new.self within c.loop-index.invariant.rest (rw value c.in-Some.ensures)))
