-- What the instances are after somebody has written to what a `stop on` remembers.
use Rattle.std.specs.Prelude.{ℕ, List, Option}
use Rattle.std.specs.Borrow.{Fml, Lends, MutBor}
use Rattle.up_marks.specs.declared.mark.Mark.{Mark}
use Rattle.up_marks.specs.contracts.trigger.Trigger as trigger
use Rattle.up_job.specs.contracts.instance_list.InstanceList as instance_list
use Rattle.up_job.specs.contracts.instances.Instances as instances
use Rattle.up_job.specs.declared.instance.Instance.{Instance}
use Rattle.up_job.specs.declared.instance_key.InstanceKey.{InstanceKey}
use Rattle.up_job.specs.declared.instances.JobInstances.{JobInstances}
use Rattle.up_job.specs.JobLists.{changed_at}
use Rattle.up_job.specs.Lists.{with_at}

abbrev pub stop_on_of : Instance → Option (List Mark)
stop_on_of instance = instance.stop_on

-- an instance whose `stop on` remembers this
abbrev pub with_stop_on : Option (List Mark) → Instance → Instance
with_stop_on stop_on instance = record instance { stop_on = stop_on }

abbrev pub LendsStopOn : MutBor (List Instance) → ℕ → MutBor (Option (List Mark)) → Fml
LendsStopOn s at r =
    Lends instance_list.the_row trigger.the_row s r (λ stop_on. with_at at (with_stop_on stop_on) s.now)

abbrev pub LendsStopOnAt : MutBor (List JobInstances) → InstanceKey → MutBor (Option (List Mark)) → Fml
LendsStopOnAt s key r =
    Lends instances.the_row trigger.the_row s r (λ stop_on. changed_at key (with_stop_on stop_on) s.now)
