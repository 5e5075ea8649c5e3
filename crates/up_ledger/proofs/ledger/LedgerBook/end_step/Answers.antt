use Rattle.std.proofs.Common.{◌∙◌, ap}
use Rattle.up_ledger.proofs.ledger.LedgerBook.end_step.Goals as goal

pub returns-clause-after : goal.returns-clause-after
returns-clause-after c config c' s = record { past = s.past; index = s.index; step = tt; found = s.found }

pub returns-clause-outputs : goal.returns-clause-outputs
returns-clause-outputs c config c' s = ap (λ outs. outs.items) c.replace.ensures.value ∙ s.step.outputs
