use Rattle.std.proofs.Common.{◌≡◌, ◌∙◌, List, true, ap, subst, sym}
use Rattle.std.specs.List.{list_all}
use Rattle.up_marks.specs.Finding.{AreOrdered, IsLeastFrom, has_wanted, names, of_event}
use Rattle.up_marks.specs.Ruling.{admits}
use Rattle.up_marks.specs.declared.wanted.Wanted.{Wanted}
use Rattle.up_marks.proofs.Early.{all-named}
use Rattle.up_marks.proofs.EventRuns.{ordered-run, same-wanted}
use Rattle.up_marks.proofs.Finding.{found-all, least-later}
use Rattle.up_marks.proofs.Ordered.{least-same}
use Rattle.up_marks.proofs.finder.Finder.next_job.Goals as goal

pub next_wanted-requires-clause-ordered : goal.next_wanted-requires-clause-ordered
next_wanted-requires-clause-ordered c =
    subst AreOrdered (sym c.of_event-leaves.ensures) (ordered-run c.args.event.now.name c.as_slice.result.now (subst AreOrdered (sym c.as_slice.ensures.value) c.self.invariant))

pub next_wanted-requires-clause-named : goal.next_wanted-requires-clause-named
next_wanted-requires-clause-named c =
    let name = c.args.event.now.name in
    subst (λ (leaves : List Wanted). list_all (names name) leaves ≡ true) (sym c.of_event-leaves.ensures) (all-named name c.as_slice.result.now)

pub returns-clause-next : goal.returns-clause-next
returns-clause-next c finds =
    let event = c.args.event.now in
    let test = admits c.args.jobs.now event in
    let all = c.args.self.now in
    let run : c.of_event-leaves.result.now ≡ of_event event.name all = c.of_event-leaves.ensures ∙ ap (of_event event.name) (c.as_slice.ensures.value ∙ c.self.view_is) in
    found-all c.args.jobs.now event all c.args.from c.next_wanted.result finds
    (least-same (has_wanted test event.name event.vars (of_event event.name all)) (has_wanted test event.name event.vars all) c.args.from (λ job after. same-wanted test event.name event.vars all job) c.next_wanted.result
    (subst (λ (leaves : List Wanted). IsLeastFrom (has_wanted test event.name event.vars leaves) c.args.from c.next_wanted.result) run c.next_wanted.ensures))

pub returns-clause-later : goal.returns-clause-later
returns-clause-later c =
    least-later (has_wanted (admits c.args.jobs.now c.args.event.now) c.args.event.now.name c.args.event.now.vars c.of_event-leaves.result.now) c.args.from c.next_wanted.result c.next_wanted.ensures
