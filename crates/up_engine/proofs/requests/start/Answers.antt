use Rattle.std.proofs.Common.{◌≡◌, ◌∷◌, ◌++◌, ◌∙◌, sym, length, refl}
use Rattle.up_book.specs.Keys.{Stepping}
use Rattle.up_engine.proofs.Asked.{asked-stays, called-acts, outcome-due, start-named}
use Rattle.up_model.specs.Chronicle.{Chronicle, Given}
use Rattle.up_model.specs.Commands.{Target, Concerns, Refused, entries_of, start}
use Rattle.up_model.specs.declared.input.Input.TheVariants as input
use Rattle.up_cascade.proofs.Entries.{some_same}
use Rattle.up_cascade.proofs.KeyLemmas.{job_name}
use Rattle.up_engine.proofs.requests.start.Goals as goal

pub returns-in_ok-refuse-in-Nobody-clause-concerns : goal.returns-in_ok-refuse-in-Nobody-clause-concerns
returns-in_ok-refuse-in-Nobody-clause-concerns g c config indexed c' id request places s held =
    rw c.in-Nobody.is (outcome-due config id request (Refused c.in-Nobody.text) c' tt)

pub returns-in_ok-start_who-in-Concerns-clause-concerns : goal.returns-in_ok-start_who-in-Concerns-clause-concerns
returns-in_ok-start_who-in-Concerns-clause-concerns g c config indexed c' id request places s held =
    let d : Chronicle = Given (input.Request id request) ∷ c' in
    let distinct = g.met.B.Book.distinct c.args.book.now Stepping config d s in
    let who = c.in-Concerns.who in
    let named = rw c.in-Concerns.is at indexed in
    let target : Target = Concerns c.in-Concerns.file.now who c.in-Concerns.environment in
    let done = c.in_ok-start_who-in-Concerns.ensures config named.0 named.1 c' (input.Request id request) places s held in
    let own : c.in-Concerns.file.now.name ≡ who.job = some_same (sym (job_name config c.in-Concerns.index c.in-Concerns.file.now named.1) ∙ named.0) in
    let after = entries_of (length c') (start places target d) ++ d in
    rw c.in-Concerns.is (called-acts c.concern_of.result config who c' after distinct (c.concern_of.ensures Stepping config after done named.0)
    (λ none. start-named config.jobs (length c') places target who d (asked-stays config id request c' none) refl own))
