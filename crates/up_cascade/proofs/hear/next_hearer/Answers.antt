use Rattle.std.proofs.Common.{◌≡◌, ◌∙◌, ◌<◌, Some, length, get_or, arith, sym, subst}
use Rattle.up_book.specs.Hearers.{IsDeaf}
use Rattle.up_book.specs.Keys.{job_at}
use Rattle.up_book.proofs.Keyed.{nth-get as slice-nth}
use Rattle.up_book.proofs.Lists.{nth-get}
use Rattle.up_cascade.proofs.Unheard.{deaf, some-same, unheard-on}
use Rattle.up_model.specs.Readings.{event_at}
use Rattle.up_cascade.proofs.hear.next_hearer.Goals as goal

pub candidates-preserved : goal.candidates-preserved
candidates-preserved g c = record {
  later = omega (arith, c.candidates.invariant.later, c.in-Some.ensures.later);
  unheard = λ c' e stood known.
      let config = c.args.setup.now in
      let event = event_at e c' in
      let file = c.index-jobs-index.result in
      let within = subst (λ jobs. c.in-Some.index < length jobs) c.jobs-jobs.ensures c.if-index-jobs.false in
      let is = subst (λ jobs. file ≡ get_or jobs c.in-Some.index file) c.jobs-jobs.ensures c.index-jobs-index.is in
      let there : job_at config c.in-Some.index ≡ Some file = sym (slice-nth c.in-Some.index config.jobs) ∙ nth-get c.in-Some.index config.jobs file within is in
      let none = deaf file event c' (sym (c.hears.ensures config c' e stood there known) ∙ c.if-hears.false) in
      unheard-on config event c' c.args.from c.candidates.from c.in-Some.index (c.candidates.invariant.unheard c' e stood known) (c.in-Some.ensures.next config c' e stood c.jobs-jobs.ensures known)
      (λ job its. subst (λ j. IsDeaf j event c') (some-same (sym there ∙ its)) none);
}
