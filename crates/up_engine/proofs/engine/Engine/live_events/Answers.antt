use Rattle.up_book.specs.Keys.{Resting}
use Rattle.up_model.specs.Loads.{in_force}
use Rattle.up_engine.proofs.engine.Engine.live_events.Goals as goal

pub returns-clause-up : goal.returns-clause-up
returns-clause-up c config c' s = c.live_events.ensures Resting (in_force config c') c' s.past
