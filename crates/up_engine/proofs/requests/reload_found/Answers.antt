use Rattle.std.proofs.Common.{◌≡◌, ◌∷◌, ◌++◌, ◌∙◌, Option, None, Some, option_map, length, refl, sym}
use Rattle.up_conf.specs.declared.job.JobDef.{JobDef}
use Rattle.up_book.specs.Keys.{Stepping}
use Rattle.up_model.specs.Chronicle.{Chronicle, Given}
use Rattle.up_model.specs.Commands.{entries_of, reload_at}
use Rattle.up_model.specs.Readings.{file_of}
use Rattle.up_engine.proofs.requests.reload_found.Goals as goal

pub returns-in_ok-reload_by-in-Some : goal.returns-in_ok-reload_by-in-Some
returns-in_ok-reload_by-in-Some g c config c' input i s known =
    by_file (file_of i d) refl (sym c.in-Some.is ∙ c.reload_signal.ensures Stepping config d i s known)
  where
    d : Chronicle
    d = Given input ∷ c'

    by_file : (o : Option JobDef) → file_of i d ≡ o → Some c.in-Some.signal ≡ option_map (λ (job : JobDef). job.reload_signal) o
        → g.B.Book.stands c.reload_by.new.book Stepping config (entries_of (length c') (reload_at (length c') (file_of i d) c.args.who.now (Some i) d) ++ d)
    by_file None is same = absurd cc
    by_file (Some job) is same =
        let signal : c.in-Some.signal ≡ job.reload_signal = cc in
        rw is (c.in_ok-reload_by-in-Some.ensures config job signal c' input i s known)

pub returns-in_ok-refuse-in-None : goal.returns-in_ok-refuse-in-None
returns-in_ok-refuse-in-None g c config c' input i s known =
    by_file (file_of i d) refl (sym c.in-None.is ∙ c.reload_signal.ensures Stepping config d i s known)
  where
    d : Chronicle
    d = Given input ∷ c'

    by_file : (o : Option JobDef) → file_of i d ≡ o → None ≡ option_map (λ (job : JobDef). job.reload_signal) o
        → g.B.Book.stands c.refuse.new.book Stepping config (entries_of (length c') (reload_at (length c') (file_of i d) c.args.who.now (Some i) d) ++ d)
    by_file None is same = rw (is, ← c.in_ok-text-in-None.ensures) (c.in_ok-refuse-in-None.ensures config c' input s)
    by_file (Some job) is same = absurd cc
