use Rattle.std.proofs.Common.{◌∙◌, ◌++◌}
use Rattle.up_engine.proofs.FreeLemmas.{free-outputs}
use Rattle.up_model.specs.Due.{effect}
use Rattle.up_engine.proofs.engine.step_book.Goals as goal

pub returns-clause-free : goal.returns-clause-free
returns-clause-free g c c' s free =
    let config = c.args.setup.now in
    let taken = c.in_ok-take.ensures.free c' s free in
    c.end_step-outputs.ensures.outputs config (effect config c.args.given c' ++ c') taken.2 ∙ free-outputs config c' c.args.given free
