use Rattle.std.proofs.Common.{◌∷◌, ◌++◌, sym, subst, length}
use Rattle.up_book.specs.Keys.{Stepping}
use Rattle.up_engine.specs.Effects.{ActsOn}
use Rattle.up_engine.proofs.Asked.{acts-concerns}
use Rattle.up_model.specs.Chronicle.{Given}
use Rattle.up_model.specs.Commands.{entries_of, outcome_of}
use Rattle.up_model.specs.declared.input.Input.TheVariants as input
use Rattle.up_engine.proofs.requests.take_request.Goals as goal

pub returns-clause-concerns : goal.returns-clause-concerns
returns-clause-concerns g c c' s =
    let config = c.args.setup.now in
    let id = c.args.id in
    let same = c.in_ok-asked.ensures in
    let given = subst (λ r. g.B.Book.stands c.begin_step.new.self Stepping config (Given (input.Request id r) ∷ c')) (sym same) (c.begin_step.ensures.after config c' s tt) in
    let acts = c.in_ok-concern.ensures.concerns c' id given in
    acts-concerns (g.B.Book.event_place c.change.new.book) c.in_ok-concern.concern config id c.args.request c'
    (subst (λ r. ActsOn c.in_ok-concern.concern config c' (entries_of (length c') (outcome_of config (length c') r (Given (input.Request id r) ∷ c')) ++ Given (input.Request id r) ∷ c')) same acts)
