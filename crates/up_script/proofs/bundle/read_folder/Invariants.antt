use Rattle.std.proofs.Common.{length}
use Rattle.up_script.proofs.Bundles.{Left}
use Rattle.up_script.proofs.bundle.read_folder.Given as goal

abbrev pub invariant-files : goal.invariant-files
invariant-files l = Left l.text l.fn.line l.folder l.bad l.line l.rest

abbrev pub decreases-files : goal.decreases-files
decreases-files l = length l.rest
