use Rattle.std.proofs.Common.{◌≡◌, ◌∙◌, Bool, ◌||◌, List, [], ◌∷◌, false, None, Some, sym, ap, map, subst, refl}
use Rattle.up_conf.specs.declared.job.JobDef.{JobDef}
use Rattle.up_image.specs.declared.index.Place.{Place}
use Rattle.up_marks.specs.Naming.{naming_in}
use Rattle.up_marks.specs.Ruling.{may_hear, may_match_in}
use Rattle.up_model.specs.Instances.{Instance, instances_of}
use Rattle.up_model.specs.Queue.{queue}
use Rattle.up_book.specs.Hearers.{one_hears, one_stops}
use Rattle.up_book.proofs.Keyed.{job-there}
use Rattle.up_book.proofs.NextHearers.{one-stops}
use Rattle.up_ledger.specs.Eventing.{place_of}
use Rattle.up_ledger.proofs.ledger.LedgerBook.hears.Goals as goal

-- no instance hears of an event that there isn't
none-hears : (its : List Instance) → one_hears None its ≡ false
none-hears [] = refl
none-hears (x ∷ its) = none-hears its

pub returns-in-Some : goal.returns-in-Some
returns-in-Some c config c' e s there known =
    let ledger = c.args.self.now in
    let event = c.in-Some.event.now in
    let job = c.args.file.now in
    let leaves : map (λ (place : Place). place.node) c.leaves-leaves.result.now ≡ naming_in job.start_on event.name =
    ap (map (λ (place : Place). place.node)) c.leaves-leaves.ensures ∙ s.index.by_event.starts c.args.index job (job-there config c.args.index job there) event.name in
    let stops : one_stops event c.of_job.result.now ≡ one_hears (Some event) (instances_of job.name c') =
    ap (one_stops event) c.of_job.ensures ∙ one-stops (place_of ledger.past.events (queue c')) ledger.past.instances config c' event c.args.index job s.past.lives.jobs there in
    subst (λ o. c.is_hearer.result ≡ (may_hear job.start_on o || one_hears o (instances_of job.name c'))) (c.in-Some.ensures config c' e s.past known)
    (subst (λ (its : JobDef). map (λ (place : Place). place.node) c.leaves-leaves.result.now ≡ naming_in its.start_on event.name
    → c.is_hearer.result ≡ (may_match_in its.start_on event.name event.vars || one_stops event c.of_job.result.now)) c.job.ensures c.is_hearer.ensures leaves
    ∙ ap (λ (b : Bool). may_match_in job.start_on event.name event.vars || b) stops)

pub returns-in-None : goal.returns-in-None
returns-in-None c config c' e s there known =
    let job = c.args.file.now in
    subst (λ o. false ≡ (may_hear job.start_on o || one_hears o (instances_of job.name c'))) (c.in-None.ensures config c' e s.past known)
    (sym (none-hears (instances_of job.name c')))
