use Rattle.std.proofs.Common.{length}
use Rattle.up_script.proofs.Bundles.{Folders}
use Rattle.up_script.proofs.bundle.read_bundle.Given as goal

abbrev pub invariant-folders : goal.invariant-folders
invariant-folders l = Folders l.text l.later.items l.bad l.line l.rest

abbrev pub decreases-folders : goal.decreases-folders
decreases-folders l = length l.rest
