use Rattle.std.proofs.Common.{sym}
use Rattle.up_job.specs.InstanceLists.{name_of}
use Rattle.up_job.proofs.NamedLemmas.{present_here, absent_here, absent_beyond}
use Rattle.up_job.proofs.instance_list.place.Goals.{else-at-instances-via-then-at-instances+else-is, else-at-instances-via-else-at-instances}
use Rattle.up_job.proofs.instance_list.place.Goals as goal

pub returns-then-is-clause-there : goal.returns-then-is-clause-there
returns-then-is-clause-there c =
    present_here name_of c.args.name.now c.args.instances.now c.position-at.result c.index-instances-at.result c.position-at.ensures c.if-at-instances.true (sym c.if-is.ensures.test)

pub returns-else-at-instances-clause-absent : goal.returns-else-at-instances-clause-absent
returns-else-at-instances-clause-absent c =
    elim c.else-at-instances.branch [
      | else-at-instances-via-then-at-instances+else-is w ↦
          absent_here name_of c.args.name.now c.args.instances.now c.position-at.result w.index-instances-at.result c.position-at.ensures c.requires w.if-at-instances.true (sym w.if-is.ensures.test)
      | else-at-instances-via-else-at-instances w ↦
          absent_beyond name_of c.args.name.now c.args.instances.now c.position-at.result c.position-at.ensures w.if-at-instances.false
    ]
