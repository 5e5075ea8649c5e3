use Rattle.std.proofs.Common.{◌∙◌, ℕ, Option, ap, sym, is_some}
use Rattle.up_job.specs.declared.instance_key.InstanceKey.{InstanceKey}
use Rattle.up_job.specs.JobLists.{instances_at}
use Rattle.up_ledger.proofs.Making.{unplaced}
use Rattle.up_ledger.proofs.past.Past.add.Goals as goal

pub add_at-requires : goal.add_at-requires
add_at-requires c =
    let key_at : ℕ → InstanceKey = λ at. record { job = c.args.job; at = at } in
    unplaced c.args.name.now (instances_at c.args.job c.args.self.now.instances) key_at (ap (λ (o : Option InstanceKey). is_some o) (sym c.position.ensures) ∙ (sym c.is_some.ensures ∙ c.if-is_some.false))
