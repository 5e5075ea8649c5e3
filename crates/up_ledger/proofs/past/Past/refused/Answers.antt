use Rattle.std.proofs.Common.{refl}
use Rattle.up_model.specs.declared.input.Input.TheVariants.{Refused}
use Rattle.up_ledger.proofs.Giving.{forgets-given}
use Rattle.up_ledger.proofs.past.Past.refused.Goals as goal

pub returns-clause-after : goal.returns-clause-after
returns-clause-after c config c' i who f found named = forgets-given c.args.self.now _ config c' c.args.key i (Refused who c.args.process) who f found refl named refl (λ k. refl) c.change_at.ensures refl refl refl
