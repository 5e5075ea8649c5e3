use Rattle.std.proofs.Common.{subst}
use Rattle.up_print.specs.Folders.{IsTable}
use Rattle.up_disk.proofs.Outcomes.{plays, plays_none}
use Rattle.up_disk.proofs.replay.render_folder.Goals as goal

pub returns-in-Some : goal.returns-in-Some
returns-in-Some c =
    plays c.args.folder.now c.args.base c.args.name.now c.args.read c.in_ok-faults.faults c.in-Some.table c.play.result c.in_ok-faults.ensures.faults
    (subst (IsTable c.args.folder.now) c.in-Some.is c.in_ok-faults.ensures.table) c.play.ensures

pub returns-in-None : goal.returns-in-None
returns-in-None c =
    plays_none c.args.folder.now c.args.base c.args.name.now c.args.read c.in_ok-faults.faults c.in_ok-faults.ensures.faults
    (subst (IsTable c.args.folder.now) c.in-None.is c.in_ok-faults.ensures.table)
