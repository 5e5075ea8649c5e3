use Rattle.std.proofs.lemmas.Result.{IfOk-weaker}
use Rattle.up_print.specs.declared.printed.Printed.{Printed}
use Rattle.up_tools.specs.Compares.{ComparesOther, ComparesWith}
use Rattle.up_tools.proofs.compare.compare_other.Goals as goal

pub returns : goal.returns
returns g c =
    IfOk-weaker c.compare_with.result _ (ComparesOther c.args.new.now c.args.other.now)
    (λ (made : Printed) (compares : ComparesWith c.args.new.now c.in_ok-old.old made). record {
      old = c.in_ok-old.old;
      loads = c.in_ok-old.ensures;
      compares = compares;
    })
    c.compare_with.ensures
