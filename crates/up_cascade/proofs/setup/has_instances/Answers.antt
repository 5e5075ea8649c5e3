use Rattle.up_cascade.proofs.LoadLemmas.{filled-count}
use Rattle.up_model.specs.Instances.{instances_of}
use Rattle.up_cascade.proofs.setup.has_instances.Goals as goal

pub returns : goal.returns
returns g c mode config c' its s named = filled-count (instances_of its c') c.count.result (c.count.ensures mode config c' its s named)
