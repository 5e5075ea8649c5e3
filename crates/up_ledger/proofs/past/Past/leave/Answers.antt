use Rattle.std.proofs.Common.{◌∷◌, ap, refl}
use Rattle.up_model.specs.declared.state.State.TheVariants.{Waiting}
use Rattle.up_model.specs.Chronicle.{Entered}
use Rattle.up_model.specs.Queue.{queue}
use Rattle.up_ledger.specs.declared.past.Past.{Past}
use Rattle.up_ledger.specs.Eventing.{place_of}
use Rattle.up_ledger.specs.Standing.{Forgets}
use Rattle.up_ledger.proofs.Announcing.{forgets-emitted}
use Rattle.up_ledger.proofs.Leaving.{forgets-left}
use Rattle.up_book.proofs.One.{there}
use Rattle.std.proofs.Common.{◌∙◌, false}
use Rattle.up_ledger.specs.Holding.{freed}
use Rattle.up_ledger.proofs.Announcing.{pushed-so}
use Rattle.up_ledger.proofs.Holds.{all-places, mild-free}
use Rattle.up_marks.specs.Triggers.{kept_by}
use Rattle.up_ledger.specs.Holding.{all_changed, as_holders}
use Rattle.up_ledger.proofs.past.Past.leave.Goals as goal

pub returns-clause-after : goal.returns-clause-after
returns-clause-after c config c' i f found =
    let book = c.args.self.now in
    let t = there (place_of book.events (queue c')) book.instances config c' c.args.key i f.lives.jobs found in
    let buried = c.in_ok-bury.ensures t.kept t.found in
    let left : Forgets c.bury.new.self config (Entered i Waiting ∷ c') =
    forgets-left book c.bury.new.self config c' c.args.key i t.kept f found t.found (ap (λ (p : Past). p.instances) buried) (ap (λ (p : Past). p.starts) buried) (ap (λ (p : Past). p.events) buried) (ap (λ (p : Past). p.reading) buried) in
    forgets-emitted c.bury.new.self _ config (Entered i Waiting ∷ c') i Waiting c.args.event _ left refl c.in_ok-push.ensures.fresh c.in_ok-push.ensures.pushed refl refl refl

pub returns-clause-events : goal.returns-clause-events
returns-clause-events c config c' i k j f found other =
    let book = c.args.self.now in
    let t = there (place_of book.events (queue c')) book.instances config c' c.args.key i f.lives.jobs found in
    let buried = c.in_ok-bury.ensures t.kept t.found in
    let freed_so = ap (λ (p : Past). p.events) buried in
    let left : Forgets c.bury.new.self config (Entered i Waiting ∷ c') =
    forgets-left book c.bury.new.self config c' c.args.key i t.kept f found t.found (ap (λ (p : Past). p.instances) buried) (ap (λ (p : Past). p.starts) buried) freed_so (ap (λ (p : Past). p.reading) buried) in
    let stays = ap (λ events. place_of events (queue c') k) freed_so ∙ all-places (freed false) (as_holders (kept_by t.kept.stop_on)) (all_changed (freed false) t.kept.holders book.events) (queue c') k mild-free ∙ all-places (freed false) t.kept.holders book.events (queue c') k mild-free ∙ other in
    pushed-so c.bury.new.self config (Entered i Waiting ∷ c') _ c.args.event _ _ k j left c.in_ok-push.ensures.fresh c.in_ok-push.ensures.pushed stays
