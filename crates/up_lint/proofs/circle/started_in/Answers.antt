use Rattle.std.proofs.Common.{◌≡◌, length, ◌∙◌, sym}
use Rattle.up_lint.specs.Circles.{started_in}
use Rattle.up_lint.proofs.Rounds.{rounds_done, rounds_none}
use Rattle.up_lint.proofs.circle.started_in.Goals as goal

pub returns-then-len-before : goal.returns-then-len-before
unfolding started_in
returns-then-len-before c =
    let same : length c.add_all.new.started ≡ length c.rounds.started =
    sym c.len.ensures ∙ c.if-len-before.true ∙ c.len-before.ensures in
    rounds_done c.rounds.left c.args.names.now c.args.commanded.now c.args.jobs.now c.rounds.started c.add_all.new.started c.in_ok-add_all.ensures same ∙ c.rounds.invariant

pub returns : goal.returns
unfolding started_in
returns c = rounds_none c.rounds.left c.args.names.now c.args.commanded.now c.args.jobs.now c.rounds.started c.rounds-test.false ∙ c.rounds.invariant
