use Rattle.std.proofs.Common.{List, subst, sym, Some, IfSome, ◌≤◌}
use Rattle.up_conf.specs.declared.job.JobDef.{JobDef}
use Rattle.up_image.specs.Index.{named, places_of}
use Rattle.up_marks.specs.Finding.{Finds, IsNextJob}
use Rattle.up_marks.specs.Ruling.{admits}
use Rattle.up_model.specs.Queue.{queue}
use Rattle.up_ledger.specs.Eventing.{place_of}
use Rattle.up_book.specs.Hearers.{IsNextHearer, has_stop}
use Rattle.up_book.proofs.NextHearers.{Hearable, lesser-later, next-hearer, next-later}
use Rattle.up_ledger.proofs.NewTables.{indexed-places}
use Rattle.up_ledger.proofs.ledger.LedgerBook.next_hearer.Goals as goal

pub returns-in-Some-clause-next : goal.returns-in-Some-clause-next
returns-in-Some-clause-next c config c' e s same known =
    let ledger = c.args.self.now in
    let event = c.in-Some.event.now in
    let places = place_of ledger.past.events (queue c') in
    let leaves = places_of 0 config.jobs in
    let h : Hearable leaves ledger.others places ledger.past.instances config c' = record { keeps = s.past.lives.jobs; index = indexed-places config.jobs; found = s.found } in
    let next : IsNextJob (admits config.jobs event) c.args.from (named event.name leaves) c.next_job.result =
    subst (λ (jobs : List JobDef). Finds ledger.index.by_value jobs → IsNextJob (admits jobs event) c.args.from (named event.name (places_of 0 jobs)) c.next_job.result) same c.next_job.ensures.next s.index.by_value in
    subst (λ o. IsNextHearer config o c' c.args.from c.lesser_of.result) (c.in-Some.ensures config c' e s.past known)
    (subst (IsNextHearer config (Some event) c' c.args.from) (sym c.lesser_of.ensures)
    (next-hearer leaves ledger.others places ledger.past.instances config c' event c.args.from c.next_job.result c.next_other.result h next c.next_other.ensures))

pub returns-in-Some-clause-later : goal.returns-in-Some-clause-later
returns-in-Some-clause-later c =
    let ledger = c.args.self.now in
    let event = c.in-Some.event.now in
    subst (λ o. IfSome o (λ n. c.args.from ≤ n)) (sym c.lesser_of.ensures)
    (lesser-later c.args.from c.next_job.result c.next_other.result c.next_job.ensures.later
    (next-later (has_stop ledger.past.instances event) c.args.from _ c.next_other.result c.next_other.ensures))
