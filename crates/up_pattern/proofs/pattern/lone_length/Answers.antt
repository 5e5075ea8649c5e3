-- For the gate's time alone: with this answer a wrong body is refused sooner.
use Rattle.up_pattern.proofs.pattern.lone_length.Goals as goal

pub returns-then-not-admits_lone-clause-admits : goal.returns-then-not-admits_lone-clause-admits
returns-then-not-admits_lone-clause-admits c = c.places.invariant
