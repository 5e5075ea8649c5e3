use Rattle.up_pattern.specs.Matching.{AdmitLone}
use Rattle.up_pattern.proofs.pattern.lone_length.Given as goal

abbrev pub invariant-places : goal.invariant-places
invariant-places l = AdmitLone l.index l.text l.bytes
