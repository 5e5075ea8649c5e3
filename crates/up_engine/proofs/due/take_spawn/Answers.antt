use Rattle.std.proofs.Common.{[], refl}
use Rattle.up_book.specs.Keys.{Resting}
use Rattle.up_engine.proofs.Alone.{concerns-alone}
use Rattle.up_model.specs.declared.input.Input.TheVariants as input
use Rattle.up_model.specs.Due.{effect}
use Rattle.up_engine.proofs.due.take_spawn.Goals as goal

pub returns-clause-concerns : goal.returns-clause-concerns
unfolding effect
returns-clause-concerns g c c' s =
    rw c.concern_of.ensures
    (concerns-alone (g.B.Book.event_place c.begin_step.new.self) c.args.setup.now (input.Spawned c.args.who c.args.process c.args.pid) c.args.who c' c.find-on.result [] c.names_differ.ensures (c.names_differ-2.ensures Resting c.args.setup.now c' s) refl
    (c.find-on.ensures Resting c' s) (λ i named. tt) refl refl)
