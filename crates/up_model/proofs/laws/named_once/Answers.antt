use Rattle.up_model.proofs.CommandLaws.{command_found, command_own}
use Rattle.up_model.proofs.laws.named_once.Goals as goal

pub returns-clause-found : goal.returns-clause-found
returns-clause-found c = command_found

pub returns-clause-own : goal.returns-clause-own
returns-clause-own c = command_own
