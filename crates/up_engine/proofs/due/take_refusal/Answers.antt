use Rattle.std.proofs.Common.{◌++◌, ◌∷◌, [], List, append_assoc, refl, subst}
use Rattle.up_book.specs.Keys.{Resting, Stepping}
use Rattle.up_engine.proofs.Alone.{concerns-alone, end_of-own}
use Rattle.up_cascade.proofs.Effects.{effect-offers}
use Rattle.up_cascade.proofs.Entries.{one_last}
use Rattle.up_model.specs.declared.failure.End.TheVariants as end
use Rattle.up_model.specs.declared.input.Input.TheVariants as input
use Rattle.up_model.specs.Chronicle.{Chronicle, Entry, Given}
use Rattle.up_model.specs.Due.{effect, end_by}
use Rattle.up_model.specs.Files.{own_file}
use Rattle.up_model.specs.Instances.{instance_named}
use Rattle.up_model.specs.declared.who.Who.{Who}
use Rattle.up_engine.proofs.due.take_refusal.Goals as goal

pub returns-clause-after : goal.returns-clause-after
unfolding effect
returns-clause-after g c c' s =
    let d : Chronicle = Given (input.Refused c.args.who c.args.process) ∷ c' in
    let config = c.args.setup.now in
    let now = c.begin_step.ensures.after config c' s (c.find-on.ensures Resting c' s) in
    let does : Who → List Entry = λ who. end_by who c.args.process (end.Refused) d in
    let done = c.in_ok-conclude.ensures config d (does c.in_ok-its.its) now (c.verdict_on-verdict_on_end.ensures Stepping d now) in
    rw one_last (subst (λ who. g.B.Book.stands c.conclude.new.book Stepping config (does who ++ d)) c.in_ok-its.ensures done)

pub returns-clause-concerns : goal.returns-clause-concerns
unfolding effect
returns-clause-concerns g c c' s =
    let given = input.Refused c.args.who c.args.process in
    let d : Chronicle = Given given ∷ c' in
    let config = c.args.setup.now in
    let who = c.args.who in
    let es = end_by who c.args.process (end.Refused) d in
    rw c.concern_of.ensures
    (concerns-alone (g.B.Book.event_place c.conclude.new.book) config given who c' c.find-on.result es c.names_differ.ensures (c.names_differ-2.ensures Resting config c' s) refl (c.find-on.ensures Resting c' s)
    (λ i named. end_of-own (own_file who d) (instance_named who d) i c.args.process (end.Refused) d named) (append_assoc es (Given given ∷ []) c') (effect-offers config given c' (λ no. no)))
