use Rattle.std.proofs.Common.{◌≡◌, ◌∷◌, ◌++◌, ◌∙◌, Some, sym, subst, length}
use Rattle.up_book.specs.Keys.{Stepping}
use Rattle.up_model.specs.Chronicle.{Chronicle, Given}
use Rattle.up_model.specs.Commands.{entries_of}
use Rattle.up_model.specs.Events.{with_instance}
use Rattle.up_model.specs.Offers.{start_who}
use Rattle.up_cascade.proofs.Entries.{some_same}
use Rattle.up_cascade.proofs.KeyLemmas.{job_name}
use Rattle.up_engine.proofs.requests.start_who.Goals as goal

pub returns-in_ok-refuse-in-Some : goal.returns-in_ok-refuse-in-Some
returns-in_ok-refuse-in-Some g c config named in_table c' input places s held =
    let d : Chronicle = Given input ∷ c' in
    let told = with_instance c.args.who.now c.args.environment in
    let means = rw c.in-Some.is at (c.in_ok-text.ensures Stepping config d s named places c.args.file.now told) in
    subst (λ outcome. g.B.Book.stands c.refuse.new.book Stepping config (entries_of (length c') outcome ++ d)) (sym means) (c.in_ok-refuse-in-Some.ensures config c' input s)

pub returns-in_ok-start_called-in-None : goal.returns-in_ok-start_called-in-None
returns-in_ok-start_called-in-None g c config named in_table c' input places s held =
    let d : Chronicle = Given input ∷ c' in
    let told = with_instance c.args.who.now c.args.environment in
    let means = rw c.in-None.is at (c.in_ok-text.ensures Stepping config d s named places c.args.file.now told) in
    let same : c.args.file.now.name ≡ c.args.who.now.job = some_same (sym (job_name config c.args.index c.args.file.now in_table) ∙ named) in
    let done = rw c.as_str.ensures at (c.in_ok-start_called-in-None.ensures.after config d places s in_table held) in
    let told_who = subst (λ job. g.B.Book.stands c.start_called.new.book Stepping config
    (start_who c.args.file.now c.args.environment places (Some (record { job = job; instance = c.args.who.now.instance })) d ++ d)) same done in
    subst (λ outcome. g.B.Book.stands c.start_called.new.book Stepping config (entries_of (length c') outcome ++ d)) (sym means) told_who
