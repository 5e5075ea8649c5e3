use Rattle.std.proofs.Common.{◌∙◌, sym, ap, subst, Option, IfSome, option_map, ◌≡◌}
use Rattle.up_job.specs.declared.instance_key.InstanceKey.{InstanceKey}
use Rattle.up_ledger.specs.Standing.{instance_place}
use Rattle.up_ledger.proofs.Finding.{finds, key-of-job}
use Rattle.up_ledger.proofs.past.Past.find.Goals as goal

pub returns-clause-place : goal.returns-clause-place
returns-clause-place c config c' its f there = ap (option_map (instance_place c.args.self.now c')) c.position.ensures ∙ finds c.args.self.now config c' c.args.job its c.args.name.now f there

pub returns-clause-job : goal.returns-clause-job
returns-clause-job c = subst (λ (o : Option InstanceKey). IfSome o (λ key. key.job ≡ c.args.job)) (sym c.position.ensures) (key-of-job c.args.job c.args.name.now c.args.self.now.instances)
