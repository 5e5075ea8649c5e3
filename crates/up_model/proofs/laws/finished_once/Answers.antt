use Rattle.up_model.proofs.TurnLaws.{finished_once, finished_handled}
use Rattle.up_model.proofs.laws.finished_once.Goals as goal

pub returns-clause-once : goal.returns-clause-once
returns-clause-once c = finished_once

pub returns-clause-taken_up : goal.returns-clause-taken_up
returns-clause-taken_up c = finished_handled
