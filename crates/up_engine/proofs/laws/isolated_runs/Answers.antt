use Rattle.up_engine.proofs.IsolationLemmas.{isolated, joined-same, run-deeds, run-orders}
use Rattle.std.proofs.Common.{ap, sym, ◌∙◌}
use Rattle.up_isolation.specs.Steps.{orders_of}
use Rattle.up_engine.proofs.laws.isolated_runs.Goals as goal

pub returns-clause-steps : goal.returns-clause-steps
returns-clause-steps c = λ job config inputs engine run means up. run-deeds job run engine config inputs means up

pub returns-clause-deeds : goal.returns-clause-deeds
returns-clause-deeds c = λ files others first second report told job inputs given compiled also same views.
    joined-same job first second inputs given (isolated files others first second report told job inputs given compiled also same views)

pub returns-clause-orders : goal.returns-clause-orders
returns-clause-orders c = λ files others first second report told job inputs given compiled also same views engine other run another means up
    means_too up_too.
    run-orders job run engine first inputs means up
    ∙ ap (orders_of job) (joined-same job first second inputs given
    (isolated files others first second report told job inputs given compiled also same views))
    ∙ sym (run-orders job another other second given means_too up_too)
