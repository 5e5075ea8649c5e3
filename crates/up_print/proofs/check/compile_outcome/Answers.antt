use Rattle.up_print.proofs.Reports.{kept_is}
use Rattle.up_print.proofs.check.compile_outcome.Goals as goal

pub returns : goal.returns
returns c = kept_is c.args.folder.now c.compile-made.result c.in_ok-kept.kept c.compile-made.ensures.compiled c.compile-made.ensures.refused c.in_ok-kept.ensures.kept
