use Rattle.std.proofs.Common.{◌≡◌, sym, subst}
use Rattle.up_book.specs.Keys.{Resting}
use Rattle.up_ledger.specs.Ledgers.{Stands}
use Rattle.up_model.specs.Commands.{listing}
use Rattle.up_engine.proofs.engine.Engine.list.Goals as goal

pub returns-in-Ok-clause-meaning : goal.returns-in-Ok-clause-meaning
returns-in-Ok-clause-meaning c config c' s =
    subst (λ conf. c.in-Ok.text ≡ listing conf c') s.setup
    (c.in-Ok.ensures Resting c' (subst (λ conf. Stands c.args.self.now.book Resting conf c') (sym s.setup) s.past))
