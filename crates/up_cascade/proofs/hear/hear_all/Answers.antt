use Rattle.std.proofs.Common.{◌≡◌, ◌∷◌, Some, length, arith, refl, sym, subst}
use Rattle.up_book.specs.Keys.{Stepping}
use Rattle.up_cascade.proofs.Unheard.{PassesBy, heard-none, heard-one, heard-last, passed-to, hears-none}
use Rattle.up_model.specs.declared.input.Input.TheVariants.{Turn}
use Rattle.up_model.specs.Chronicle.{Given, Handled}
use Rattle.up_model.specs.Readings.{event_at}
use Rattle.up_cascade.proofs.hear.hear_all.Goals as goal

pub hearers-init : goal.hearers-init
hearers-init g c = record {
  within = omega arith;
  heard = λ c' e none untrue stood known. heard-none (g.B.Book.stands c.args.book.now Stepping c.args.setup.now) (g.B.Book.event_place c.args.book.now) c.args.setup.now e c.args.event c' none untrue stood known;
  unheard = λ c' e stood known deaf. refl;
}

pub hearers-preserved : goal.hearers-preserved
hearers-preserved g c = record {
  within = omega (arith, c.in-Some.ensures.within.1);
  heard = λ c' e none untrue stood known.
      let config = c.args.setup.now in
      let event = c.args.event in
      let stands = g.B.Book.stands c.hearers.book Stepping config in
      let places = g.B.Book.event_place c.hearers.book in
      let h = c.hearers.invariant.heard c' e none untrue stood known in
      let next = c.in-Some.ensures.next h.d e h.stood h.known in
      let by : PassesBy stands places config = record { start = c.passes_by.ensures.start config; stop = c.passes_by.ensures.stop config; events = c.passes_by.ensures.events } in
      let to = passed-to stands places config by c.names_differ.ensures e event c.hearers.from c.in-Some.index (Handled e ∷ Given Turn ∷ c') c.in-Some.ensures.within.0 (omega (arith, c.in-Some.ensures.within.1)) h next.1 in
      heard-one stands (g.B.Book.stands c.hear.new.book Stepping config) places (g.B.Book.event_place c.hear.new.book) config e event c.in-Some.index c.in-Some.file.now (Handled e ∷ Given Turn ∷ c') c.names_differ.ensures next.0 to
      (c.in_ok-hear.ensures.after to.d e to.stood next.0 to.known) (c.in_ok-hear.ensures.events to.d e to.stood next.0 to.known event e to.known);
  unheard = λ c' e stood known deaf.
      let same = c.hearers.invariant.unheard c' e stood known deaf in
      let now = subst (λ b. g.B.Book.stands b Stepping c.args.setup.now c') (sym same) stood in
      let here = subst (λ b. g.B.Book.event_place b c' c.args.event ≡ Some e) (sym same) known in
      absurd (hears-none c.args.setup.now c.in-Some.index c.in-Some.file.now (event_at e c') c' deaf (c.in-Some.ensures.next c' e now here).0 (c.in-Some.ensures.hears c' e now here));
}

pub returns-clause-after : goal.returns-clause-after
returns-clause-after g c c' e none untrue stood known =
    let config = c.args.setup.now in
    let event = c.args.event in
    let stands = g.B.Book.stands c.hearers.book Stepping config in
    let places = g.B.Book.event_place c.hearers.book in
    let h = c.hearers.invariant.heard c' e none untrue stood known in
    let by : PassesBy stands places config = record { start = c.passes_by-2.ensures.start config; stop = c.passes_by-2.ensures.stop config; events = c.passes_by-2.ensures.events } in
    heard-last stands places config e event (Handled e ∷ Given Turn ∷ c')
    (passed-to stands places config by c.names_differ.ensures e event c.hearers.from (length config.jobs) (Handled e ∷ Given Turn ∷ c') c.hearers.invariant.within (omega arith) h (c.in_default.ensures.next h.d e h.stood h.known))

pub returns-clause-unheard : goal.returns-clause-unheard
returns-clause-unheard g c c' e stood known deaf = (refl, c.hearers.invariant.unheard c' e stood known deaf)

pub returns-in_err-hear-clause-unheard : goal.returns-in_err-hear-clause-unheard
returns-in_err-hear-clause-unheard g c c' e stood known deaf =
    let same = c.hearers.invariant.unheard c' e stood known deaf in
    let now = subst (λ b. g.B.Book.stands b Stepping c.args.setup.now c') (sym same) stood in
    let here = subst (λ b. g.B.Book.event_place b c' c.args.event ≡ Some e) (sym same) known in
    absurd (hears-none c.args.setup.now c.in-Some.index c.in-Some.file.now (event_at e c') c' deaf (c.in-Some.ensures.next c' e now here).0 (c.in-Some.ensures.hears c' e now here))
