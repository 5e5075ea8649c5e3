use Rattle.std.proofs.Common.{◌≡◌, ◌∙◌, ◌+◌, ◌<◌, ◌≤◌, ℕ, Bool, false, drop, get_or, ap, sym, arith}
use Rattle.up_image.specs.declared.index.Place.{Place}
use Rattle.up_job.specs.JobLists.{instances_at}
use Rattle.up_book.specs.Hearers.{first_from, has_stop, one_stops}
use Rattle.up_book.proofs.Others.{other-before, other-vain}
use Rattle.up_book.proofs.hearers.first_other.Goals.{then-from-job+else-one_stops, else-from-job}
use Rattle.up_book.proofs.hearers.first_other.Goals as goal

pub loop-place-preserved : goal.loop-place-preserved
loop-place-preserved c =
    let i = c.loop-place.place-index in
    let places = c.args.places.now in
    let from = c.loop-place.from in
    let x = c.place-item.result in
    let event = c.args.event.now in
    let asks : ℕ → Bool = λ n. one_stops event (instances_at n c.args.instances.now) in
    let job : x.job ≡ (get_or places i x).job = ap (λ (p : Place). p.job) c.place-item.is in
    elim c.if-from-job.branch [
      | then-from-job+else-one_stops w ↦
          (let after : from ≤ (get_or places i x).job = omega (arith, w.if-from-job.true, job) in
          let none : asks (get_or places i x).job ≡ false = ap asks (sym job) ∙ ap (one_stops event) (sym w.of_job.ensures) ∙ sym w.one_stops.ensures ∙ w.if-one_stops.false in
          let next : c.if-from-job.from ≡ (get_or places i x).job + 1 = w.from-is ∙ ap (λ n. n + 1) job in
          ap (λ f. first_from (has_stop c.args.instances.now event) f (drop (i + 1) places)) next
          ∙ sym (other-vain asks from places i x c.requires c.loop-place-test.true after none) ∙ c.loop-place.invariant)
      | else-from-job w ↦
          (let before : (get_or places i x).job < from = omega (arith, w.if-from-job.false, job) in
          ap (λ f. first_from (has_stop c.args.instances.now event) f (drop (i + 1) places)) w.from-is
          ∙ sym (other-before asks from places i x c.loop-place-test.true before) ∙ c.loop-place.invariant)
    ]
