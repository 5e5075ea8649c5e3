use Rattle.std.proofs.Common.{refl}
use Rattle.up_model.specs.declared.input.Input.TheVariants.{Spawned}
use Rattle.up_ledger.proofs.Giving.{forgets-given}
use Rattle.up_ledger.proofs.past.Past.spawned.Goals as goal

pub returns-clause-after : goal.returns-clause-after
returns-clause-after c config c' i who f found named = forgets-given c.args.self.now _ config c' c.args.key i (Spawned who c.args.process c.args.pid) who f found refl named refl (λ k. refl) c.change_at.ensures refl refl refl
