-- An entry that doesn't concern an instance leaves all that is known of it.
use Rattle.std.proofs.Common.{◌≡◌, ℕ, ◌<◌, ◌==◌, Bool, true, false, List, [], ◌∷◌, length, map, refl}
use Rattle.std.specs.List.{AllByRecursion}
use Rattle.up_model.specs.declared.input.Input.TheVariants as input
use Rattle.up_model.specs.declared.state.Goal.TheVariants.{Start, Stop}
use Rattle.up_model.specs.declared.state.State.TheVariants as state
use Rattle.up_model.specs.Chronicle.{Chronicle, Entry, Given, Queued, Handled, Offered, Fired, Finished, Made, Aimed, Restarted, Released, Failed, Respawned, Entered, Ordered, Signalled, Replied, Loaded, Outside, Entering, Spoilt}
use Rattle.up_model.specs.Instances.{Instance}
use Rattle.up_model.specs.Readings.{holders}
use Rattle.up_model.proofs.Places.{older-other}
use Rattle.up_book.specs.Keeps.{HoldsOlder}
use Rattle.up_book.specs.Summaries.{holding_at, summary}

-- what holds by an older place does so one entry later
pub holding-later : (e : Entry) (c : Chronicle) (places : List ℕ) → AllByRecursion (λ place. place < length c) places
    → map (holding_at (e ∷ c)) places ≡ map (holding_at c) places
holding-later e c [] all = refl
holding-later e c (place ∷ places) all = rw (older-other (length c) place all.0, holding-later e c places all.1) refl

-- whether an entry may change what is known of an instance
abbrev pub concerns : ℕ → Entry → Bool
concerns i (Given (input.Emit event)) = false
concerns i (Given (input.Request id request)) = false
concerns i (Given (input.Clock reading)) = false
concerns i (Given input.Turn) = false
concerns i (Given (input.Load id loaded)) = false
concerns i (Given (input.Spawned who its pid)) = true
concerns i (Given (input.Refused who its)) = true
concerns i (Given (input.Ended who its how)) = true
concerns i (Queued (Outside given) event) = false
concerns i (Queued (Spoilt spoilt) event) = false
concerns i (Queued (Entering other entered) event) = other == i
concerns i (Handled event) = false
concerns i (Offered expression event) = false
concerns i (Fired expression taken) = false
concerns i (Finished event) = true
concerns i (Made file name) = true
concerns i (Aimed other goal env its) = other == i
concerns i (Restarted other its) = other == i
concerns i (Released other failed) = other == i
concerns i (Failed other its) = other == i
concerns i (Respawned other moment) = other == i
concerns i (Entered other to) = other == i
concerns i (Ordered other its) = other == i
concerns i (Signalled other signal by_timer) = other == i
concerns i (Replied request answer) = false
concerns i (Loaded jobs) = false

pub spared : (e : Entry) (c : Chronicle) (x : Instance) → concerns x.place e ≡ false → HoldsOlder x.place c
    → summary (e ∷ c) x ≡ summary c x
spared (Given (input.Emit event)) c x apart older = rw (holding-later (Given (input.Emit event)) c (holders x.place c) older) refl
spared (Given (input.Request id request)) c x apart older = rw (holding-later (Given (input.Request id request)) c (holders x.place c) older) refl
spared (Given (input.Clock reading)) c x apart older = rw (holding-later (Given (input.Clock reading)) c (holders x.place c) older) refl
spared (Given input.Turn) c x apart older = rw (holding-later (Given input.Turn) c (holders x.place c) older) refl
spared (Given (input.Load id loaded)) c x apart older = rw (holding-later (Given (input.Load id loaded)) c (holders x.place c) older) refl
spared (Given (input.Spawned who its pid)) c x apart older = absurd cc
spared (Given (input.Refused who its)) c x apart older = absurd cc
spared (Given (input.Ended who its how)) c x apart older = absurd cc
spared (Queued (Outside given) event) c x apart older = rw (holding-later (Queued (Outside given) event) c (holders x.place c) older) refl
spared (Queued (Spoilt spoilt) event) c x apart older = rw (holding-later (Queued (Spoilt spoilt) event) c (holders x.place c) older) refl
spared (Queued (Entering other entered) event) c x apart older = rw (holding-later (Queued (Entering other entered) event) c (holders x.place c) older, apart) refl
spared (Handled event) c x apart older = rw (holding-later (Handled event) c (holders x.place c) older) refl
spared (Offered expression event) c x apart older = rw (holding-later (Offered expression event) c (holders x.place c) older) refl
spared (Fired expression taken) c x apart older = rw (holding-later (Fired expression taken) c (holders x.place c) older) refl
spared (Finished event) c x apart older = absurd cc
spared (Made file name) c x apart older = absurd cc
spared (Aimed other Start env its) c x apart older = rw (apart, holding-later (Aimed other Start env its) c (holders x.place c) older) refl
spared (Aimed other Stop env its) c x apart older = rw (apart, holding-later (Aimed other Stop env its) c (holders x.place c) older) refl
spared (Restarted other its) c x apart older = rw (apart, holding-later (Restarted other its) c (holders x.place c) older) refl
spared (Released other failed) c x apart older = rw (apart, holding-later (Released other failed) c (holders x.place c) older) refl
spared (Failed other its) c x apart older = rw (apart, holding-later (Failed other its) c (holders x.place c) older) refl
spared (Respawned other moment) c x apart older = rw (apart, holding-later (Respawned other moment) c (holders x.place c) older) refl
spared (Entered other state.Starting) c x apart older = rw (apart, holding-later (Entered other state.Starting) c (holders x.place c) older) refl
spared (Entered other to) c x apart older = rw (apart, holding-later (Entered other to) c (holders x.place c) older) refl
spared (Ordered other its) c x apart older = rw (apart, holding-later (Ordered other its) c (holders x.place c) older) refl
spared (Signalled other signal true) c x apart older = rw (apart, holding-later (Signalled other signal true) c (holders x.place c) older) refl
spared (Signalled other signal false) c x apart older = rw (apart, holding-later (Signalled other signal false) c (holders x.place c) older) refl
spared (Replied request answer) c x apart older = rw (holding-later (Replied request answer) c (holders x.place c) older) refl
spared (Loaded jobs) c x apart older = rw (holding-later (Loaded jobs) c (holders x.place c) older) refl
