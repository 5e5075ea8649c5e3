use Rattle.std.proofs.Common.{sym, subst}
use Rattle.std.proofs.lemmas.Result.{IfOk-weaker}
use Rattle.up_marks.specs.Naming.{Rising}
use Rattle.up_job.proofs.StopLemmas.{rising-stop_places}
use Rattle.up_job.proofs.instances.Instances.stop_places.Goals as goal

pub returns-clause-order : goal.returns-clause-order
returns-clause-order c =
    IfOk-weaker c.stop_places.result _ _ (λ places are. subst (λ ps. Rising 0 ps) (sym are) (rising-stop_places c.as_slice.result.now)) c.stop_places.ensures
