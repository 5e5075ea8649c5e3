use Rattle.std.proofs.Common.{◌≡◌, ◌≤◌, ℕ, List, Some, true, drop, length, option_map}
use Rattle.std.specs.Process.{command_var, clears_env, SameProgramAndArgs, SameDir}
use Rattle.up_text.specs.Bindings.{value_of}
use Rattle.up_edge.proofs.command.set_env.Given as goal

abbrev pub invariant-loop-count : goal.invariant-loop-count
invariant-loop-count l = record {
  within : l.count ≤ length l.env;
  clears : clears_env l.command ≡ true;
  vars : (key : List ℕ) → command_var l.command key ≡ option_map (λ value. Some value) (value_of key (drop l.count l.env));
  words : SameProgramAndArgs l.fn.command l.command;
  dir : SameDir l.fn.command l.command;
}

abbrev pub decreases-loop-count : goal.decreases-loop-count
decreases-loop-count l = l.count
