use Rattle.std.proofs.Common.{◌≡◌}
use Rattle.std.proofs.lemmas.Result.{IfOk-weaker}
use Rattle.up_print.specs.declared.printed.Printed.{Printed}
use Rattle.up_tools.specs.Lints.{linted}
use Rattle.up_tools.proofs.lint.lint.Goals as goal

pub returns : goal.returns
returns c =
    IfOk-weaker c.linted.result _ _
    (λ (made : Printed) (is : made ≡ linted c.in_ok-faults.faults c.as_slice.result.now c.in_ok-faults.table c.args.left_out.now c.args.outside.now). record {
      faults = c.in_ok-faults.faults;
      found = c.in_ok-faults.ensures.faults;
      table = c.in_ok-faults.table;
      compiled = c.in_ok-faults.ensures.table;
      same = rw c.as_slice.ensures at is;
    })
    c.linted.ensures
