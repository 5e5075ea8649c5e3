use Rattle.std.proofs.Common.{codes}
use Rattle.up_conf.proofs.Endings.{without_ending-from_strip}
use Rattle.up_lint.proofs.world.failed_event.Goals as goal

pub returns : goal.returns
returns c = without_ending-from_strip (codes "/failed") c.args.event.now c.strip_suffix.result c.strip_suffix.ensures.cases
