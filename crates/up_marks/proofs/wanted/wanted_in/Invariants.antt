use Rattle.std.proofs.Common.{◌≡◌, drop}
use Rattle.up_marks.specs.Finding.{wanted_in}
use Rattle.up_marks.proofs.wanted.wanted_in.Given as goal

-- the rest decides
abbrev pub invariant-loop-test : goal.invariant-loop-test
invariant-loop-test l = wanted_in (drop l.test-index l.tests) ≡ wanted_in l.tests
