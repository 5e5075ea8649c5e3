use Rattle.std.proofs.Common.{◌≡◌, Option, Some, option_map, refl, subst}
use Rattle.up_job.specs.declared.instance_key.InstanceKey.{InstanceKey}
use Rattle.up_model.specs.Instances.{instance_named}
use Rattle.up_book.specs.Keys.{instance_place}
use Rattle.up_model.specs.declared.input.Input.TheVariants.{Spawned}
use Rattle.up_ledger.proofs.Giving.{forgets-unnamed, speaks-some, speaks-none}
use Rattle.up_ledger.proofs.Ledgers.{keyed}
use Rattle.up_ledger.proofs.past.Past.spawned_if.Goals as goal

pub returns-in-Some-clause-after : goal.returns-in-Some-clause-after
returns-in-Some-clause-after c config c' who f speaks =
    let its = speaks-some config c' c.in-Some.key who (subst (λ (o : Option InstanceKey). option_map (instance_place config c') o ≡ option_map Some (instance_named who c')) c.in-Some.is speaks) in
    c.spawned.ensures.after config c' its.0 who f (keyed c.args.self.now config c' c.in-Some.key its.0 f its.1) its.2

pub returns-in-None-clause-after : goal.returns-in-None-clause-after
returns-in-None-clause-after c config c' who f speaks = forgets-unnamed c.args.self.now config c' (Spawned who c.args.process c.args.pid) who f refl (speaks-none config c' who (subst (λ (o : Option InstanceKey). option_map (instance_place config c') o ≡ option_map Some (instance_named who c')) c.in-None.is speaks)) refl
