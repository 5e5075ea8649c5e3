use Rattle.std.proofs.Common.{◌∙◌, ap, subst}
use Rattle.up_model.specs.declared.exit_status.ExitStatus.TheVariants.{Done}
use Rattle.up_print.specs.Folders.{prints}
use Rattle.up_disk.specs.Compiling.{Adds}
use Rattle.up_disk.proofs.Compiling.{more_at, none_found, refused_at}
use Rattle.up_disk.proofs.compiled.compile_all.Goals as goal

pub loop-folder-init : goal.loop-folder-init
loop-folder-init c = none_found _ (ap (λ text. prints text Done) (c.new-2.ensures ∙ c.new.ensures.items)) c.new-3.ensures.items

pub returns-in-Err : goal.returns-in-Err
returns-in-Err c =
    refused_at c.args.folders.now c.loop-folder.folder-index c.folder-item.result c.loop-folder.found c.in-Err.refusal c.loop-folder-test.true c.folder-item.is
    c.loop-folder.invariant (subst (Adds c.loop-folder.found c.folder-item.result) c.in-Err.is c.in_ok-more.ensures)

pub loop-folder-preserved : goal.loop-folder-preserved
loop-folder-preserved c =
    more_at c.args.folders.now c.loop-folder.folder-index c.folder-item.result c.loop-folder.found c.in-Ok.more c.loop-folder-test.true c.folder-item.is
    c.loop-folder.invariant (subst (Adds c.loop-folder.found c.folder-item.result) c.in-Ok.is c.in_ok-more.ensures)
