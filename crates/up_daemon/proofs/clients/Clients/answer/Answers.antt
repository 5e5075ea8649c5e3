use Rattle.std.proofs.Common.{◌<◌, ◌≡◌, ◌≢◌, Some, sym, length, get_or, arith}
use Rattle.up_daemon.proofs.Seats.{answered_at, same_at, all_more}
use Rattle.up_daemon.proofs.clients.Clients.answer.Goals as goal

pub returns-then-branch : goal.returns-then-branch
returns-then-branch c =
    let before = c.loop-index.invariant.same in
    let client = c.index_mut.result.now in
    let within : c.loop-index.index < length c.args.self.now.list.items = omega (arith, c.loop-index-test.true, c.len-index-end.ensures, c.args.self.now.list.ok.0) in
    let value : get_or c.args.self.now.list.items c.loop-index.index client ≡ client = sym (rw before at c.index_mut.ensures.value) in
    rw before (answered_at c.args.id c.args.answer.now c.args.self.now.list.items c.loop-index.index client c.answer.new.self within (rw value (rw c.if-branch.true at c.in_ok-answer.ensures)))

pub loop-index-preserved : goal.loop-index-preserved
loop-index-preserved c =
    let before = c.loop-index.invariant in
    let client = c.index_mut.result.now in
    let within : c.loop-index.index < length c.args.self.now.list.items = omega (arith, c.loop-index-test.true, c.len-index-end.ensures, c.args.self.now.list.ok.0) in
    let value : get_or c.args.self.now.list.items c.loop-index.index client ≡ client = sym (rw before.same at c.index_mut.ensures.value) in
    let unchanged = rw c.if-branch.false at c.in_ok-answer.ensures in
    record { same = rw before.same (same_at c.args.self.now.list.items c.loop-index.index client c.answer.new.self unchanged.0 value); others = all_more (λ peer. peer.unanswered ≢ Some c.args.id) c.args.self.now.list.items c.loop-index.index client within before.others (rw value unchanged.1) }
