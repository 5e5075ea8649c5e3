-- What the moments that are kept say of all moments.
use Rattle.std.proofs.Common.{◌≡◌, ℕ, zero, suc, ◌+◌, ◌-◌, ◌<◌, ◌≤◌, nat_lt, Bool, true, false, cond, ◌&&◌, ◌||◌, ◌==◌, List, [], ◌∷◌, take, count_by, refl, sym, ◌∙◌, ap, arith}
use Rattle.std.proofs.lemmas.Bool.{le-ltb, lt-ltb, ltb-false, ltb-true}
use Rattle.std.proofs.lemmas.List.Sums.{sum_by-cons}
use Rattle.circular_buffer.specs.Buffer.{buffer}
use Rattle.up_stanza.specs.declared.limit.Limit.{Limit}
use Rattle.up_model.specs.Chronicle.{Chronicle, Respawned}
use Rattle.up_model.specs.Clock.{is_unlimited, may_respawn, now, milliseconds, respawns}
use Rattle.up_job.specs.Moments.{allows, moments_of, noted, recent, room, Falls}

-- the respawns that the model counts
pub respawns-recent : (instance today span : ℕ) (c : Chronicle) → respawns instance today span c ≡ recent today span (moments_of instance c)
respawns-recent instance today span [] = refl
respawns-recent instance today span (Respawned other moment ∷ c) =
    by_case (other == instance) (nat_lt (today - moment) span) refl (respawns-recent instance today span c)
  where
    by_case : (b r : Bool) → nat_lt (today - moment) span ≡ r → respawns instance today span c ≡ recent today span (moments_of instance c)
        → cond (b && r) (respawns instance today span c + 1) (respawns instance today span c)
        ≡ recent today span (cond b (moment ∷ moments_of instance c) (moments_of instance c))
    by_case true true its ih = rw its (ap (λ n. n + 1) ih)
    by_case true false its ih = rw its ih
    by_case false r its ih = ih
respawns-recent instance today span (entry ∷ c) = respawns-recent instance today span c

pub count-recent : (today span : ℕ) (moments : List ℕ) → count_by (λ moment. nat_lt (today - moment) span) moments ≡ recent today span moments
count-recent today span [] = refl
count-recent today span (moment ∷ moments) =
    sum_by-cons (λ m. cond (nat_lt (today - m) span) 1 0) moment moments ∙ by_case (nat_lt (today - moment) span) (count-recent today span moments)
  where
    by_case : (r : Bool) → count_by (λ m. nat_lt (today - m) span) moments ≡ recent today span moments
        → cond r 1 0 + count_by (λ m. nat_lt (today - m) span) moments ≡ cond r (recent today span moments + 1) (recent today span moments)
    by_case true ih = omega (arith, ih)
    by_case false ih = omega (arith, ih)

-- a test of numbers that are one more
next_lt : (a b : ℕ) → nat_lt (a + 1) (suc b) ≡ nat_lt a b
next_lt a b = by_case (nat_lt a b) refl
  where
    by_case : (r : Bool) → nat_lt a b ≡ r → nat_lt (a + 1) (suc b) ≡ r
    by_case true h = let less : a < b = ltb-true a b h in lt-ltb (a + 1) (suc b) (omega (arith, less))
    by_case false h = let most : b ≤ a = ltb-false a b h in le-ltb (a + 1) (suc b) (omega (arith, most))

-- before a moment that isn't recent none is
none_recent : (today span top : ℕ) (moments : List ℕ) → Falls top moments → nat_lt (today - top) span ≡ false → recent today span moments ≡ 0
none_recent today span top [] falls old = refl
none_recent today span top (moment ∷ moments) falls old =
    let past : span ≤ today - top = ltb-false (today - top) span old in
    let older : nat_lt (today - moment) span ≡ false = le-ltb (today - moment) span (omega (arith, falls.0, past)) in
    rw older (none_recent today span moment moments falls.1 older)

falls-take : (n top : ℕ) (moments : List ℕ) → Falls top moments → Falls top (take n moments)
falls-take zero top moments falls = tt
falls-take (suc n) top [] falls = tt
falls-take (suc n) top (moment ∷ moments) falls = (falls.0, falls-take n moment moments falls.1)

-- as many moments as a limit counts say whether fewer are recent
pub recent-take : (today span n top : ℕ) (moments : List ℕ) → Falls top moments
    → nat_lt (recent today span (take n moments)) n ≡ nat_lt (recent today span moments) n
recent-take today span zero top moments falls =
    le-ltb (recent today span (take 0 moments)) 0 (omega arith) ∙ sym (le-ltb (recent today span moments) 0 (omega arith))
recent-take today span (suc n) top [] falls = refl
recent-take today span (suc n) top (moment ∷ moments) falls =
    by_case (nat_lt (today - moment) span) refl (recent-take today span n moment moments falls.1)
  where
    by_case : (r : Bool) → nat_lt (today - moment) span ≡ r → nat_lt (recent today span (take n moments)) n ≡ nat_lt (recent today span moments) n
        → nat_lt (cond r (recent today span (take n moments) + 1) (recent today span (take n moments))) (suc n)
        ≡ nat_lt (cond r (recent today span moments + 1) (recent today span moments)) (suc n)
    by_case true its ih = next_lt (recent today span (take n moments)) n ∙ ih ∙ sym (next_lt (recent today span moments) n)
    by_case false its ih =
        rw (none_recent today span moment (take n moments) (falls-take n moment moments falls.1) its, none_recent today span moment moments falls.1 its) refl

-- what is kept decides as the model does
pub allows-model : (limit : Limit) (instance : ℕ) (c : Chronicle) (today : ℕ) (kept : List ℕ)
    → kept ≡ take (room limit) (moments_of instance c) → Falls today (moments_of instance c)
    → allows limit today kept ≡ (is_unlimited limit || nat_lt (respawns instance today (milliseconds limit.interval) c) limit.count)
allows-model limit instance c today kept its falls = by_case (is_unlimited limit) refl
  where
    by_case : (b : Bool) → is_unlimited limit ≡ b → (b || nat_lt (recent today (milliseconds limit.interval) kept) limit.count)
        ≡ (b || nat_lt (respawns instance today (milliseconds limit.interval) c) limit.count)
    by_case true unlimited = refl
    by_case false limited =
        let wanted : kept ≡ take limit.count (moments_of instance c) = its ∙ ap (λ b. take (cond b 0 limit.count) (moments_of instance c)) limited in
        rw (wanted, respawns-recent instance today (milliseconds limit.interval) c)
        (recent-take today (milliseconds limit.interval) limit.count today (moments_of instance c) falls)

pub limited-model : (limit : Limit) (instance : ℕ) (c : Chronicle) (today : ℕ) (kept : List ℕ) → is_unlimited limit ≡ false → today ≡ now c
    → kept ≡ take (room limit) (moments_of instance c) → Falls today (moments_of instance c)
    → nat_lt (recent today (milliseconds limit.interval) kept) limit.count ≡ may_respawn limit instance c
limited-model limit instance c today kept limited is its falls =
    sym (ap (λ b. b || nat_lt (recent today (milliseconds limit.interval) kept) limit.count) limited)
    ∙ allows-model limit instance c today kept its falls
    ∙ ap (λ t. is_unlimited limit || nat_lt (respawns instance t (milliseconds limit.interval) c) limit.count) is

take-take : (n : ℕ) (moment : ℕ) (moments : List ℕ) → take n (moment ∷ take n moments) ≡ take n (moment ∷ moments)
take-take zero moment moments = refl
take-take (suc zero) moment moments = refl
take-take (suc (suc n)) moment [] = refl
take-take (suc (suc n)) moment (other ∷ moments) = ap (λ rest. moment ∷ rest) (take-take (suc n) other moments)

-- a respawn that is noted is kept as the newest of all
pub noted-take : (n moment : ℕ) (moments : List ℕ) → noted moment (buffer (take n moments) n) ≡ buffer (take n (moment ∷ moments)) n
noted-take n moment moments = ap (λ xs. buffer xs n) (take-take n moment moments)

-- moments stay so when the clock goes on
pub falls-later : (top later : ℕ) (moments : List ℕ) → top ≤ later → Falls top moments → Falls later moments
falls-later top later [] le falls = tt
falls-later top later (moment ∷ moments) le falls = (omega (arith, le, falls.0), falls.1)
