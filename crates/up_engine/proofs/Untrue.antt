-- Between two steps no expression in force is true.
use Rattle.std.proofs.Common.{◌≡◌, Bool, true, false, List, [], ◌∷◌, ◌++◌, Option, None, Some, append_assoc, refl, sym, ◌∙◌, ap, subst}
use Rattle.std.specs.List.{AllByRecursion}
use Rattle.up_model.specs.declared.input.Input.{Input}
use Rattle.up_model.specs.declared.input.Input.TheVariants as input
use Rattle.up_model.specs.Chronicle.{Chronicle, Entry, Given, Handled, Offered}
use Rattle.up_model.specs.Configuration.{Configuration}
use Rattle.up_model.specs.Due.{due, turn_event, effect}
use Rattle.up_model.specs.Files.{names_in_order}
use Rattle.up_model.specs.Moves.{move_first}
use Rattle.up_model.specs.Predicates.{or_else}
use Rattle.up_model.specs.Queue.{Live, queue}
use Rattle.up_model.specs.Replies.{unanswered, answering_last}
use Rattle.up_model.specs.Values.{Bytes}
use Rattle.up_model.proofs.ReplyLaws.{answering_hurried-all}
use Rattle.up_model.specs.Loads.{is_load}
use Rattle.up_model.proofs.Settling.{settle_rests}
use Rattle.up_book.specs.Keeps.{AreDistinct}
use Rattle.up_cascade.specs.Settling.{settle_all, after_in}
use Rattle.up_cascade.specs.Unfired.{NoneHolds, IsAtRest}
use Rattle.up_cascade.proofs.Effects.{TakesNone, TakesUp, IsTaking, effect-of, effect-offers, turn-takes}
use Rattle.up_cascade.proofs.Hearing.{heard-rested, after-taken, after-other}
use Rattle.up_cascade.proofs.Unfired.{IsUnoffered, none-entry, none-entries, none-all, none-first}

takes-unoffered : (e : Entry) → TakesNone e → IsUnoffered e
takes-unoffered (Offered x event) is = absurd is
takes-unoffered e is = tt

all-unoffered : (es : List Entry) → AllByRecursion TakesNone es → AllByRecursion IsUnoffered es
all-unoffered [] all = tt
all-unoffered (e ∷ es) all = (takes-unoffered e all.0, all-unoffered es all.1)

-- after an effect that takes no event up, and all that comes of it
effect-untrue : (config : Configuration) (given : Input) (c : Chronicle) → (IsTaking config given c → ⊥) → NoneHolds config c → NoneHolds config (effect config given c ++ c)
effect-untrue config given c none untrue =
    let its = effect-of config given c none in
    subst (NoneHolds config) (sym (ap (λ es. es ++ c) its.whole ∙ append_assoc its.entries (Given given ∷ []) c))
    (none-entries config its.entries (Given given ∷ c) (all-unoffered its.entries its.none) (none-entry config (Given given) c tt untrue))

other-untrue : (config : Configuration) (given : Input) (c : Chronicle) → AreDistinct config.jobs → (IsTaking config given c → ⊥) → NoneHolds config c → NoneHolds config (after_in config c given)
other-untrue config given c distinct none untrue =
    let d = settle_all config.jobs (effect config given c ++ c) in
    subst (NoneHolds config) (after-other config given c distinct (effect-offers config given c none))
    (none-entries config (answering_last d) d (answering_hurried-all IsUnoffered (λ request answer. tt) (unanswered d) d) (none-all config config.jobs (effect config given c ++ c) (effect-untrue config given c none untrue)))

-- and after a turn that takes one up
after-untrue : (config : Configuration) (given : Input) (c : Chronicle) → AreDistinct config.jobs → due config c ≡ [] → NoneHolds config c → NoneHolds config (after_in config c given)
after-untrue config input.Turn c distinct none untrue = by_event (turn_event config (queue c) c) refl
  where
    by_event : (o : Option Live) → turn_event config (queue c) c ≡ o → NoneHolds config (after_in config c input.Turn)
    by_event None found = other-untrue config input.Turn c distinct (λ takes. subst TakesUp found takes) untrue
    by_event (Some live) found = by_handled live.handled refl
      where
        by_handled : (b : Bool) → live.handled ≡ b → NoneHolds config (after_in config c input.Turn)
        by_handled true is =
            other-untrue config input.Turn c distinct (λ takes. (
            let no : live.handled ≡ false = subst TakesUp found takes in
            let both : true ≡ false = sym is ∙ no in
            absurd cc
            )) untrue
        by_handled false is =
            subst (NoneHolds config) (after-taken config input.Turn c live.place distinct none (turn-takes config c live.place live.handled found is))
            ((heard-rested config live.place c distinct none).1 (none-entry config (Handled live.place) (Given input.Turn ∷ c) tt (none-entry config (Given input.Turn) c tt untrue)))
after-untrue config given c distinct none untrue = other-untrue config given c distinct (λ takes. takes) untrue

-- nothing is due before anything has happened
none-moves : (config : Configuration) (names : List Bytes) → move_first names [] ≡ []
none-moves config [] = refl
none-moves config (name ∷ names) = none-moves config names

rests-first : (config : Configuration) → due config [] ≡ []
unfolding due
rests-first config = ap (λ es. or_else es []) (none-moves config (names_in_order config []))

-- so a step comes to rest
pub rest-in : (config : Configuration) (given : Input) (c : Chronicle) → is_load given ≡ false → AreDistinct config.jobs → IsAtRest config c → IsAtRest config (after_in config c given)
unfolding after_in
rest-in config given c is distinct rest = record { rested = settle_rests config (effect config given c ++ c); untrue = after-untrue config given c distinct rest.rested rest.untrue }

pub rest-first : (config : Configuration) → IsAtRest config []
rest-first config = record { rested = rests-first config; untrue = none-first config }
