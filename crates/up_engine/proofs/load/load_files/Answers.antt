use Rattle.std.proofs.Common.{◌∷◌, ◌∙◌, true, length, sym, ap, subst, refl}
use Rattle.up_book.specs.Keys.{Stepping}
use Rattle.up_model.specs.Chronicle.{Chronicle, Given, Loaded, Replied}
use Rattle.up_model.specs.Configuration.{Configuration}
use Rattle.up_engine.proofs.load.load_files.Goals as goal

pub returns-clause-book : goal.returns-clause-book
returns-clause-book g c c' given s =
    let config = c.args.setup.now in
    let d : Chronicle = Given given ∷ c' in
    let same = c.in_ok-next.ensures Stepping d s in
    let stood = c.in_ok-load.ensures config d c.args.table s refl (c.jobs.ensures ∙ ap (λ (conf : Configuration). conf.jobs) same) in
    let stands = subst (λ conf. g.B.Book.stands c.load-2.new.self Stepping conf (Loaded c.args.table ∷ d)) (sym same) stood in
    subst (λ text. g.B.Book.stands c.reply.new.self Stepping c.in_ok-next.next (Replied (length c') (record { ok = true; text = text }) ∷ Loaded c.args.table ∷ d)) c.empty-text.ensures
    (c.in_ok-reply.ensures c.in_ok-next.next (Loaded c.args.table ∷ d) stands)
