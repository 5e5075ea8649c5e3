-- What holds change.
use Rattle.std.proofs.Common.{◌≡◌, ℕ, zero, suc, ◌+◌, ◌-◌, ◌<◌, ◌≤◌, ◌==◌, ◌||◌, Bool, true, false, not, IsSomeAnd, List, [], ◌∷◌, length, map, drop, get_or, Option, None, Some, is_some, option_map, if◌then◌else◌, refl, sym, ◌∙◌, ap, arith, add-one, drop-cons, eqb-true, eq-eqb, replicate}
use Rattle.std.proofs.lemmas.Bool.{eqb-false}
use Rattle.up_event.specs.declared.live.LiveEvent.{LiveEvent}
use Rattle.up_event.specs.LiveEvents.{named, is, IsHeld, with_change, with_hold, without_hold}
use Rattle.up_model.specs.declared.event_id.EventId.{EventId}
use Rattle.up_model.specs.Queue.{Live}
use Rattle.up_job.specs.declared.holder.Holder.{Holder}
use Rattle.up_job.specs.declared.holder.Holder.TheVariants as holder
use Rattle.up_ledger.specs.Counting.{one_if, event_of, holder_uses}
use Rattle.up_ledger.specs.Eventing.{standing_of, place_of, holds_of, holds_in}
use Rattle.up_ledger.specs.Holding.{freed, changed_by, all_changed, as_holders, AllLive}
use Rattle.up_book.proofs.Lists.{cons_same}

-- a change that leaves ids and standings
pub record Mild (change : LiveEvent → LiveEvent) : Type 0 where
  pub id : (live : LiveEvent) → (change live).id ≡ live.id
  pub standing : (live : LiveEvent) → standing_of (change live) ≡ standing_of live

pub freed-id : (failed : Bool) (live : LiveEvent) (b : Bool) → (if b then live else without_hold failed live).id ≡ live.id
freed-id failed live true = refl
freed-id failed live false = refl

or-false : (b : Bool) → (b || false) ≡ b
or-false true = refl
or-false false = refl

freed-standing : (live : LiveEvent) (b : Bool) → standing_of (if b then live else without_hold false live) ≡ standing_of live
freed-standing live true = refl
freed-standing live false = rw (or-false live.spoilt) refl

pub mild-hold : Mild with_hold
mild-hold = record { id = λ live. refl; standing = λ live. refl }

pub mild-free : Mild (freed false)
mild-free = record { id = λ live. freed-id false live (live.holds == 0); standing = λ live. freed-standing live (live.holds == 0) }

same-standings : (change : LiveEvent → LiveEvent) (id : EventId) (events : List LiveEvent) → Mild change → map standing_of (with_change id change events) ≡ map standing_of events
same-standings change id [] mild = refl
same-standings change id (e ∷ events) mild = by_case (e.id.key == id.key) (same-standings change id events mild)
  where
    by_case : (b : Bool) → map standing_of (with_change id change events) ≡ map standing_of events → map standing_of (if b then change e ∷ events else e ∷ with_change id change events) ≡ map standing_of (e ∷ events)
    by_case true ih = cons_same (mild.standing e) refl
    by_case false ih = cons_same refl ih

same-place : (change : LiveEvent → LiveEvent) (id other : EventId) (events : List LiveEvent) (lives : List Live) → ((live : LiveEvent) → (change live).id ≡ live.id) → place_of (with_change id change events) lives other ≡ place_of events lives other
same-place change id other [] lives ids = refl
same-place change id other (e ∷ events) [] ids = by_case (e.id.key == id.key)
  where
    by_case : (b : Bool) → place_of (if b then change e ∷ events else e ∷ with_change id change events) [] other ≡ None
    by_case true = refl
    by_case false = refl
same-place change id other (e ∷ events) (l ∷ lives) ids = by_case (e.id.key == id.key) (same-place change id other events lives ids)
  where
    if-same : (b : Bool) (x y : Option ℕ) → x ≡ y → (if b then Some l.place else x) ≡ (if b then Some l.place else y)
    if-same true x y same = refl
    if-same false x y same = same

    by_case : (b : Bool) → place_of (with_change id change events) lives other ≡ place_of events lives other
        → place_of (if b then change e ∷ events else e ∷ with_change id change events) (l ∷ lives) other ≡ place_of (e ∷ events) (l ∷ lives) other
    by_case true ih = ap (λ (i : EventId). if i.key == other.key then Some l.place else place_of events lives other) (ids e)
    by_case false ih = if-same (e.id.key == other.key) _ _ ih

-- what each event is held after
pub holds-one : (change : LiveEvent → LiveEvent) (id other : EventId) (events : List LiveEvent) → ((live : LiveEvent) → (change live).id ≡ live.id)
    → holds_of other (with_change id change events) ≡ (if id.key == other.key then holds_in (option_map {T = LiveEvent} change (named id events)) else holds_of other events)
holds-one change id other [] ids = by_case (id.key == other.key)
  where
    by_case : (b : Bool) → holds_in None ≡ (if b then holds_in (option_map {T = LiveEvent} change None) else holds_of other [])
    by_case true = refl
    by_case false = refl
holds-one change id other (e ∷ events) ids = by_case (e.id.key == id.key) (e.id.key == other.key) (id.key == other.key) refl refl refl (holds-one change id other events ids)
  where
    first : (b : Bool) (x : LiveEvent) → x.id ≡ e.id → (e.id.key == other.key) ≡ b → holds_in (named other (x ∷ events)) ≡ holds_in (if b then Some x else named other events)
    first b x same so =
        let here : (x.id.key == other.key) ≡ b = ap (λ (i : EventId). i.key == other.key) same ∙ so in
        rw here refl

    by_case : (b d f : Bool) → (e.id.key == id.key) ≡ b → (e.id.key == other.key) ≡ d → (id.key == other.key) ≡ f
        → holds_of other (with_change id change events) ≡ (if f then holds_in (option_map {T = LiveEvent} change (named id events)) else holds_of other events)
        → holds_in (named other (if b then change e ∷ events else e ∷ with_change id change events))
        ≡ (if f then holds_in (option_map {T = LiveEvent} change (if b then Some e else named id events)) else holds_in (if d then Some e else named other events))
    by_case true true true h k m ih = first true (change e) (ids e) k
    by_case true true false h k m ih = absurd (eqb-false id.key other.key m (sym (eqb-true e.id.key id.key h) ∙ eqb-true e.id.key other.key k))
    by_case true false true h k m ih = absurd (eqb-false e.id.key other.key k (eqb-true e.id.key id.key h ∙ eqb-true id.key other.key m))
    by_case true false false h k m ih = first false (change e) (ids e) k
    by_case false true true h k m ih = absurd (eqb-false e.id.key id.key h (eqb-true e.id.key other.key k ∙ sym (eqb-true id.key other.key m)))
    by_case false true false h k m ih = rw k refl
    by_case false false true h k m ih = rw k ih
    by_case false false false h k m ih = rw k ih

-- one hold more of what lives
held-more : (live : Option LiveEvent) → is_some live ≡ true → holds_in (option_map {T = LiveEvent} with_hold live) ≡ holds_in live + 1
held-more None some = absurd cc
held-more (Some live) some = refl

freed-less : (failed : Bool) (live : Option LiveEvent) → 0 < holds_in live → holds_in (option_map {T = LiveEvent} (freed failed) live) + 1 ≡ holds_in live
freed-less failed None some = absurd (omega arith)
freed-less failed (Some live) some = by_case (live.holds == 0) refl
  where
    by_case : (b : Bool) → (live.holds == 0) ≡ b → (if b then live else without_hold failed live).holds + 1 ≡ live.holds
    by_case true none = absurd (omega (arith, eqb-true live.holds 0 none, some))
    by_case false more = omega (arith, some)

abbrev with_key : ℕ → EventId
with_key key = record { key = key }

same-key : (id other : EventId) (events : List LiveEvent) → (id.key == other.key) ≡ true → holds_in (named id events) ≡ holds_of other events
same-key id other events same = ap (λ key. holds_in (named (with_key key) events)) (eqb-true id.key other.key same)

-- so a list of holds is as many more
some-changed : (change : LiveEvent → LiveEvent) (id other : EventId) (events : List LiveEvent) → ((live : LiveEvent) → (change live).id ≡ live.id) → is_some (named other (with_change id change events)) ≡ is_some (named other events)
some-changed change id other [] ids = refl
some-changed change id other (e ∷ events) ids = by_case (e.id.key == id.key) (some-changed change id other events ids)
  where
    some-if : (b : Bool) (x y : LiveEvent) (more less : Option LiveEvent) → is_some more ≡ is_some less → is_some (if b then Some x else more) ≡ is_some (if b then Some y else less)
    some-if true x y more less same = refl
    some-if false x y more less same = same

    by_case : (b : Bool) → is_some (named other (with_change id change events)) ≡ is_some (named other events)
        → is_some (named other (if b then change e ∷ events else e ∷ with_change id change events)) ≡ is_some (named other (e ∷ events))
    by_case true ih = ap (λ (i : EventId). is_some (if i.key == other.key then Some (change e) else named other events)) (ids e) ∙ some-if (e.id.key == other.key) (change e) e (named other events) (named other events) refl
    by_case false ih = some-if (e.id.key == other.key) e e _ _ ih

live-after : (id : EventId) (events : List LiveEvent) (its : List Holder) → AllLive events its → AllLive (with_change id with_hold events) its
live-after id events [] all = tt
live-after id events (h ∷ its) all = ((λ other is. some-changed with_hold id other events (λ live. refl) ∙ all.0 other is), live-after id events its all.1)

pub holds-all : (its : List Holder) (events : List LiveEvent) (other : EventId) → AllLive events its → holds_of other (all_changed with_hold its events) ≡ holds_of other events + holder_uses other its
holds-all [] events other all = omega arith
holds-all (holder.Client number command ∷ its) events other all = omega (arith, holds-all its events other all.1)
holds-all (holder.Event id ∷ its) events other all =
    let rest = holds-all its (with_change id with_hold events) other (live-after id events its all.1) in
    let one = holds-one with_hold id other events (λ live. refl) in
    by_case (id.key == other.key) refl one rest
  where
    by_case : (b : Bool) → (id.key == other.key) ≡ b → holds_of other (with_change id with_hold events) ≡ (if b then holds_in (option_map {T = LiveEvent} with_hold (named id events)) else holds_of other events)
        → holds_of other (all_changed with_hold its (with_change id with_hold events)) ≡ holds_of other (with_change id with_hold events) + holder_uses other its
        → holds_of other (all_changed with_hold its (with_change id with_hold events)) ≡ holds_of other events + (one_if b + holder_uses other its)
    by_case true same one rest = omega (arith, rest, one, held-more (named id events) (all.0 id refl), same-key id other events same)
    by_case false differs one rest = omega (arith, rest, one)

-- after one release there are still as many as the others need
pub less-holds : (failed : Bool) (id : EventId) (its : List Holder) (events : List LiveEvent) → ((one : EventId) → holder_uses one (holder.Event id ∷ its) ≤ holds_of one events)
    → (one : EventId) → holder_uses one its ≤ holds_of one (with_change id (freed failed) events)
less-holds failed id its events enough one =
    let ids : (live : LiveEvent) → (freed failed live).id ≡ live.id = λ live. freed-id failed live (live.holds == 0) in
    let mine : (id.key == id.key) ≡ true = eq-eqb id.key id.key refl in
    let some : 0 < holds_in (named id events) = omega (arith, enough id, ap one_if mine) in
    by_id some (id.key == one.key) refl (holds-one (freed failed) id one events ids) (enough one)
  where
    by_id : 0 < holds_in (named id events) → (b : Bool) → (id.key == one.key) ≡ b
        → holds_of one (with_change id (freed failed) events) ≡ (if b then holds_in (option_map {T = LiveEvent} (freed failed) (named id events)) else holds_of one events)
        → one_if b + holder_uses one its ≤ holds_of one events → holder_uses one its ≤ holds_of one (with_change id (freed failed) events)
    by_id some true same is few = omega (arith, is, few, freed-less failed (named id events) some, same-key id one events same)
    by_id some false differs is few = omega (arith, is, few)

-- and of releases as many less
pub frees-all : (failed : Bool) (its : List Holder) (events : List LiveEvent) (other : EventId) → ((id : EventId) → holder_uses id its ≤ holds_of id events)
    → holds_of other (all_changed (freed failed) its events) + holder_uses other its ≡ holds_of other events
frees-all failed [] events other enough = omega arith
frees-all failed (holder.Client number command ∷ its) events other enough = omega (arith, frees-all failed its events other (λ id. omega (arith, enough id)))
frees-all failed (holder.Event id ∷ its) events other enough =
    let ids : (live : LiveEvent) → (freed failed live).id ≡ live.id = λ live. freed-id failed live (live.holds == 0) in
    let mine : (id.key == id.key) ≡ true = eq-eqb id.key id.key refl in
    let some : 0 < holds_in (named id events) = omega (arith, enough id, ap one_if mine) in
    let rest = frees-all failed its (with_change id (freed failed) events) other (λ one. by_id one some (id.key == one.key) refl (holds-one (freed failed) id one events ids) (enough one)) in
    by_case some (id.key == other.key) refl (holds-one (freed failed) id other events ids) rest
  where
    by_id : (one : EventId) → 0 < holds_in (named id events) → (b : Bool) → (id.key == one.key) ≡ b
        → holds_of one (with_change id (freed failed) events) ≡ (if b then holds_in (option_map {T = LiveEvent} (freed failed) (named id events)) else holds_of one events)
        → one_if b + holder_uses one its ≤ holds_of one events → holder_uses one its ≤ holds_of one (with_change id (freed failed) events)
    by_id one some true same is few = omega (arith, is, few, freed-less failed (named id events) some, same-key id one events same)
    by_id one some false differs is few = omega (arith, is, few)

    by_case : 0 < holds_in (named id events) → (b : Bool) → (id.key == other.key) ≡ b
        → holds_of other (with_change id (freed failed) events) ≡ (if b then holds_in (option_map {T = LiveEvent} (freed failed) (named id events)) else holds_of other events)
        → holds_of other (all_changed (freed failed) its (with_change id (freed failed) events)) + holder_uses other its ≡ holds_of other (with_change id (freed failed) events)
        → holds_of other (all_changed (freed failed) its (with_change id (freed failed) events)) + (one_if b + holder_uses other its) ≡ holds_of other events
    by_case some true same one rest = omega (arith, rest, one, freed-less failed (named id events) some, same-key id other events same)
    by_case some false differs one rest = omega (arith, rest, one)

-- standings and places stay
pub all-standings : (change : LiveEvent → LiveEvent) (its : List Holder) (events : List LiveEvent) → Mild change → map standing_of (all_changed change its events) ≡ map standing_of events
all-standings change [] events mild = refl
all-standings change (holder.Client number command ∷ its) events mild = all-standings change its events mild
all-standings change (holder.Event id ∷ its) events mild = all-standings change its (with_change id change events) mild ∙ same-standings change id events mild

pub all-places : (change : LiveEvent → LiveEvent) (its : List Holder) (events : List LiveEvent) (lives : List Live) (other : EventId) → Mild change → place_of (all_changed change its events) lives other ≡ place_of events lives other
all-places change [] events lives other mild = refl
all-places change (holder.Client number command ∷ its) events lives other mild = all-places change its events lives other mild
all-places change (holder.Event id ∷ its) events lives other mild = all-places change its (with_change id change events) lives other mild ∙ same-place change id other events lives mild.id

-- a release keeps ids, so that places stay
pub all-same-places : (failed : Bool) (its : List Holder) (events : List LiveEvent) (lives : List Live) (other : EventId) → place_of (all_changed (freed failed) its events) lives other ≡ place_of events lives other
all-same-places failed [] events lives other = refl
all-same-places failed (holder.Client number command ∷ its) events lives other = all-same-places failed its events lives other
all-same-places failed (holder.Event id ∷ its) events lives other =
    all-same-places failed its (with_change id (freed failed) events) lives other ∙ same-place (freed failed) id other events lives (λ live. freed-id failed live (live.holds == 0))

-- the holders from one on
pub holders_left : (change : LiveEvent → LiveEvent) (its : List Holder) (i : ℕ) (d : Holder) (events : List LiveEvent) → i < length its
    → all_changed change (drop i its) events ≡ all_changed change (drop (i + 1) its) (changed_by change (event_of (get_or its i d)) events)
holders_left change its i d events within =
    let one : drop i its ≡ get_or its i d ∷ drop (i + 1) its = rw add-one (drop-cons its i d within) in
    ap (λ hs. all_changed change hs events) one

-- a release of what is held, and of what isn't
pub freed_held : (failed : Bool) (id : EventId) (events : List LiveEvent) → not (holds_of id events == 0) ≡ true → with_change id (without_hold failed) events ≡ with_change id (freed failed) events
freed_held failed id [] some = refl
freed_held failed id (e ∷ events) some = by_case (e.id.key == id.key) some (freed_held failed id events)
  where
    mine : (b : Bool) → not b ≡ true → without_hold failed e ≡ (if b then e else without_hold failed e)
    mine true h = absurd cc
    mine false h = refl

    by_case : (b : Bool) → not (holds_in (if b then Some e else named id events) == 0) ≡ true → (not (holds_of id events == 0) ≡ true → with_change id (without_hold failed) events ≡ with_change id (freed failed) events)
        → (if b then without_hold failed e ∷ events else e ∷ with_change id (without_hold failed) events) ≡ (if b then freed failed e ∷ events else e ∷ with_change id (freed failed) events)
    by_case true some ih = cons_same (mine (e.holds == 0) some) refl
    by_case false some ih = cons_same refl (ih some)

pub freed_none : (failed : Bool) (id : EventId) (events : List LiveEvent) → not (holds_of id events == 0) ≡ false → with_change id (freed failed) events ≡ events
freed_none failed id [] none = refl
freed_none failed id (e ∷ events) none = by_case (e.id.key == id.key) none (freed_none failed id events)
  where
    mine : (b : Bool) → not b ≡ false → (if b then e else without_hold failed e) ≡ e
    mine true h = refl
    mine false h = absurd cc

    by_case : (b : Bool) → not (holds_in (if b then Some e else named id events) == 0) ≡ false → (not (holds_of id events == 0) ≡ false → with_change id (freed failed) events ≡ events)
        → (if b then freed failed e ∷ events else e ∷ with_change id (freed failed) events) ≡ e ∷ events
    by_case true none ih = cons_same (mine (e.holds == 0) none) refl
    by_case false none ih = cons_same refl (ih none)

pub may_release : (id : EventId) (events : List LiveEvent) → not (holds_of id events == 0) ≡ true → IsHeld id events
may_release id events some = by_name (named id events) some
  where
    more : (n : ℕ) → not (n == 0) ≡ true → 0 < n
    more zero h = absurd cc
    more (suc n) h = omega arith

    by_name : (live : Option LiveEvent) → not (holds_in live == 0) ≡ true → IsSomeAnd live (λ l. 0 < l.holds)
    by_name None h = absurd cc
    by_name (Some live) h = more live.holds h

-- the events from one on
pub ids_left : (change : LiveEvent → LiveEvent) (ids : List EventId) (i : ℕ) (d : EventId) (events : List LiveEvent) → i < length ids
    → all_changed change (as_holders (drop i ids)) events ≡ all_changed change (as_holders (drop (i + 1) ids)) (with_change (get_or ids i d) change events)
ids_left change ids i d events within =
    let one : drop i ids ≡ get_or ids i d ∷ drop (i + 1) ids = rw add-one (drop-cons ids i d within) in
    ap (λ its. all_changed change (as_holders its) events) one

-- the times from one on
pub times_left : (times i : ℕ) (id : EventId) (events : List LiveEvent) → i < times
    → all_changed with_hold (as_holders (replicate (times - i) id)) events ≡ all_changed with_hold (as_holders (replicate (times - (i + 1)) id)) (with_change id with_hold events)
times_left times i id events within =
    let one : times - i ≡ suc (times - (i + 1)) = omega (arith, within) in
    ap (λ n. all_changed with_hold (as_holders (replicate n id)) events) one
