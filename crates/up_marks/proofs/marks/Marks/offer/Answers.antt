use Rattle.std.proofs.Common.{◌∙◌, sym, refl, ap, filter, map, ◌+◌, ◌==◌, cond}
use Rattle.up_image.specs.declared.index.Place.{Place}
use Rattle.up_marks.specs.Marking.{newly_matches, uses}
use Rattle.up_marks.proofs.Offering.{agrees_after, newly_after, marks_use}
use Rattle.up_marks.proofs.marks.Marks.offer.Goals as goal

pub returns-clause-agrees : goal.returns-clause-agrees
returns-clause-agrees c = λ event_of sights e agrees event_is named.
    let tree = c.args.condition.now in
    let event = c.args.event.now in
    let places = map (λ (place : Place). place.node) c.args.places.now in
    let matched = filter (newly_matches 0 tree agrees.kept event.name event.vars c.args.env.now) places in
    agrees_after event_of c.args.id e event_is tree event.name event.vars c.args.env.now c.args.self.now c.offer_in.new.marks.items places matched sights agrees named refl
    (c.in_ok-kept.ensures.marks agrees.kept (c.self.view_is ∙ agrees.laid))

pub returns-clause-kept : goal.returns-clause-kept
returns-clause-kept c = λ event_of sights e agrees event_is named.
    let tree = c.args.condition.now in
    let event = c.args.event.now in
    let places = map (λ (place : Place). place.node) c.args.places.now in
    let matched = filter (newly_matches 0 tree agrees.kept event.name event.vars c.args.env.now) places in
    c.in_ok-kept.ensures.count agrees.kept (c.self.view_is ∙ agrees.laid)
    ∙ newly_after event_of e tree event.name event.vars c.args.env.now c.args.self.now places matched sights agrees named refl

pub returns-clause-holds : goal.returns-clause-holds
returns-clause-holds c = λ event_of sights e agrees event_is named.
    let tree = c.args.condition.now in
    let event = c.args.event.now in
    let places = map (λ (place : Place). place.node) c.args.places.now in
    let matched = filter (newly_matches 0 tree agrees.kept event.name event.vars c.args.env.now) places in
    c.holds-holds.ensures event_of tree _
    (agrees_after event_of c.args.id e event_is tree event.name event.vars c.args.env.now c.args.self.now c.offer_in.new.marks.items places matched sights agrees named refl
    (c.in_ok-kept.ensures.marks agrees.kept (c.self.view_is ∙ agrees.laid)))

pub returns-clause-uses : goal.returns-clause-uses
returns-clause-uses c = λ event_of sights other agrees named.
    let tree = c.args.condition.now in
    let event = c.args.event.now in
    let places = map (λ (place : Place). place.node) c.args.places.now in
    let matched = filter (newly_matches 0 tree agrees.kept event.name event.vars c.args.env.now) places in
    marks_use event_of other c.args.id tree event.name event.vars c.args.env.now c.args.self.now c.offer_in.new.marks.items places matched sights agrees named refl
    (c.in_ok-kept.ensures.marks agrees.kept (c.self.view_is ∙ agrees.laid))
    ∙ ap (λ n. uses other c.args.self.now + cond (c.args.id.key == other.key) n 0) (sym (c.in_ok-kept.ensures.count agrees.kept (c.self.view_is ∙ agrees.laid)))
