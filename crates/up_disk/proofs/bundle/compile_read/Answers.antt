use Rattle.std.proofs.Common.{subst}
use Rattle.up_script.specs.Statements.{script_inputs}
use Rattle.up_disk.specs.Compiling.{unless_bad, IsOutcome}
use Rattle.up_disk.proofs.Compiling.{folders_compiled, folders_refused}
use Rattle.up_disk.proofs.bundle.compile_read.Goals as goal

pub returns-in-Some : goal.returns-in-Some
returns-in-Some c =
    folders_compiled c.args.bundle.now.folder c.args.bundle.now.later c.in_ok-faults.faults c.in-Some.table
    (λ tables. unless_bad c.args.bundle.now.bad (script_inputs tables c.args.bundle.now.line c.args.bundle.now.script.now)) c.compile_later.result
    (subst (IsOutcome c.args.bundle.now.folder c.in_ok-faults.faults) c.in-Some.is c.in_ok-faults.ensures) c.compile_later.ensures

pub returns-in-None : goal.returns-in-None
returns-in-None c =
    folders_refused c.args.bundle.now.folder c.args.bundle.now.later c.in_ok-faults.faults
    (λ tables. unless_bad c.args.bundle.now.bad (script_inputs tables c.args.bundle.now.line c.args.bundle.now.script.now))
    (subst (IsOutcome c.args.bundle.now.folder c.in_ok-faults.faults) c.in-None.is c.in_ok-faults.ensures)
