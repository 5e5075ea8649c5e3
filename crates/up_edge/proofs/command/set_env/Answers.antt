use Rattle.std.proofs.Common.{rules, arith, ◌-◌}
use Rattle.std.specs.Process.{command_var}
use Rattle.up_edge.proofs.Vars.{vars_of-drop}
use Rattle.up_edge.proofs.command.set_env.Goals as goal

pub loop-count-preserved : goal.loop-count-preserved
loop-count-preserved c = record {
  within = omega arith;
  clears = search rules;
  vars =
      vars_of-drop c.args.env.now (c.loop-count.count - 1) c.loop-count.count _ _ (λ key. command_var c.loop-count.command key) (λ key. command_var c.set_var.new.command key)
      (omega arith) c.at.ensures.pair c.loop-count.invariant.vars c.in_ok-set_var.ensures.set c.in_ok-set_var.ensures.others;
  words = search rules;
  dir = search rules;
}
