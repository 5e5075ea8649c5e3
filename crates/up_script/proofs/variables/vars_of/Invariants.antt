use Rattle.std.proofs.Common.{◌≡◌, [], drop}
use Rattle.up_script.specs.Variables.{vars_of}
use Rattle.up_script.proofs.variables.vars_of.Given as goal

-- what is left, after the variables so far, gives the whole
abbrev pub invariant-loop-word : goal.invariant-loop-word
invariant-loop-word l = vars_of l.vars (drop l.word-index l.words) ≡ vars_of [] l.words
