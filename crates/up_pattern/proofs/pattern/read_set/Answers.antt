-- For the gate's time alone: with this answer a wrong body is refused sooner.
use Rattle.std.proofs.Common.{rules}
use Rattle.up_pattern.proofs.pattern.read_set.Goals as goal

pub read_inner-requires-clause-inverted : goal.read_inner-requires-clause-inverted
read_inner-requires-clause-inverted c = search rules

pub read_inner-requires-clause-inner : goal.read_inner-requires-clause-inner
read_inner-requires-clause-inner c = search rules

pub read_inner-requires-in-None-clause-inverted : goal.read_inner-requires-in-None-clause-inverted
read_inner-requires-in-None-clause-inverted c = search rules

pub read_inner-requires-in-None-clause-inner : goal.read_inner-requires-in-None-clause-inner
read_inner-requires-in-None-clause-inner c = search rules
