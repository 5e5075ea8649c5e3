use Rattle.std.proofs.Common.{refl}
use Rattle.up_model.specs.declared.input.Input.TheVariants.{Ended}
use Rattle.up_ledger.proofs.Giving.{forgets-given}
use Rattle.up_ledger.proofs.past.Past.ended.Goals as goal

pub returns-clause-after : goal.returns-clause-after
returns-clause-after c config c' i who how f found named = forgets-given c.args.self.now _ config c' c.args.key i (Ended who c.args.process how) who f found refl named refl (λ k. refl) c.change_at.ensures refl refl refl
