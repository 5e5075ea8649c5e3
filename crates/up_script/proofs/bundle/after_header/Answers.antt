use Rattle.std.proofs.Common.{◌<◌, length, ◌∙◌, sym, arith}
use Rattle.std.proofs.lemmas.Bool.{eqb-true, eqb-false}
use Rattle.up_script.proofs.Headers.{script_after, script_none}
use Rattle.up_script.proofs.bundle.after_header.Goals as goal

pub returns-then-is_empty-clause-script : goal.returns-then-is_empty-clause-script
returns-then-is_empty-clause-script c script = sym (script_none c.args.rest.now (omega (arith, eqb-true (length c.args.rest.now) 0 (sym c.is_empty.ensures ∙ c.if-is_empty.true)))).0

pub returns-then-is_empty-clause-number : goal.returns-then-is_empty-clause-number
returns-then-is_empty-clause-number c script = sym ((script_none c.args.rest.now (omega (arith, eqb-true (length c.args.rest.now) 0 (sym c.is_empty.ensures ∙ c.if-is_empty.true)))).1 c.args.line)

pub returns-else-is_empty-clause-script : goal.returns-else-is_empty-clause-script
returns-else-is_empty-clause-script c script =
    let some : 0 < length c.args.rest.now = omega (arith, eqb-false (length c.args.rest.now) 0 (sym c.is_empty.ensures ∙ c.if-is_empty.false)) in
    c.split_line.ensures.after ∙ sym (script_after c.args.rest.now some script).0

pub returns-else-is_empty-clause-number : goal.returns-else-is_empty-clause-number
returns-else-is_empty-clause-number c script =
    let some : 0 < length c.args.rest.now = omega (arith, eqb-false (length c.args.rest.now) 0 (sym c.is_empty.ensures ∙ c.if-is_empty.false)) in
    sym ((script_after c.args.rest.now some script).1 c.args.line)
