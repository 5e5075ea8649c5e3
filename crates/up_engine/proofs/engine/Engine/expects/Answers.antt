use Rattle.std.proofs.Common.{sym, subst}
use Rattle.up_book.specs.Keys.{Resting}
use Rattle.up_ledger.specs.Ledgers.{Stands}
use Rattle.up_engine.proofs.engine.Engine.expects.Goals as goal

pub returns : goal.returns
returns c config c' s =
    c.is_expected.ensures Resting c' (subst (λ conf. Stands c.args.self.now.book Resting conf c') (sym s.setup) s.past)
