-- The first job with an instance that an event may stop, where each job is asked once.
use Rattle.std.proofs.Common.{◌≡◌, ℕ, zero, suc, ◌+◌, ◌*◌, ◌<◌, ◌≤◌, ◌==◌, nat_le, Bool, true, false, ◌&&◌, List, [], ◌∷◌, length, drop, Some, get_or, if◌then◌else◌, refl, sym, ◌∙◌, ap, arith, eqb-true}
use Rattle.std.proofs.lemmas.Bool.{eqb-false}
use Rattle.up_image.specs.declared.index.Place.{Place}
use Rattle.up_marks.specs.Naming.{Rising, rank_of}
use Rattle.up_book.specs.Hearers.{first_from}
use Rattle.up_book.proofs.NextHearers.{bit-few, first_left, not-le}

le-so : (a b : ℕ) → a ≤ b → nat_le a b ≡ true
le-so a b le = grind arith

skip : {X : Type 0} (b : Bool) (x y : X) → (if b && false then x else y) ≡ y
skip true x y = refl
skip false x y = refl

-- once a job was asked in vain, its other places don't count
past-job : (admits_ : ℕ → Bool) (from job : ℕ) (xs : List Place) (low : ℕ) → Rising low xs → job * 2 ≤ low → from ≤ job → admits_ job ≡ false
    → first_from (λ x. admits_ x.job) from xs ≡ first_from (λ x. admits_ x.job) (job + 1) xs
past-job admits_ from job [] low up least before none = refl
past-job admits_ from job (x ∷ xs) low up least before none = by_job (x.job == job) refl (past-job admits_ from job xs (rank_of x) up.1 (omega (arith, up.0, least)) before none)
  where
    by_job : (b : Bool) → (x.job == job) ≡ b → first_from (λ x. admits_ x.job) from xs ≡ first_from (λ x. admits_ x.job) (job + 1) xs
        → (if nat_le from x.job && admits_ x.job then Some x.job else first_from (λ x. admits_ x.job) from xs) ≡ (if nat_le (job + 1) x.job && admits_ x.job then Some x.job else first_from (λ x. admits_ x.job) (job + 1) xs)
    by_job true same ih =
        let here : x.job ≡ job = eqb-true x.job job same in
        let past : nat_le (job + 1) x.job ≡ false = not-le (job + 1) x.job (omega (arith, here)) in
        ap (λ (a : Bool). if nat_le from x.job && a then Some x.job else first_from (λ x. admits_ x.job) from xs) (ap admits_ here ∙ none) ∙ skip (nat_le from x.job) _ _ ∙ ih
        ∙ sym (ap (λ (b : Bool). if b && admits_ x.job then Some x.job else first_from (λ x. admits_ x.job) (job + 1) xs) past)
    by_job false differs ih =
        let more : job < x.job = omega (arith, up.0, least, eqb-false x.job job differs, bit-few x.start) in
        let one = le-so from x.job (omega (arith, more, before)) in
        let other = le-so (job + 1) x.job (omega (arith, more)) in
        ap (λ (b : Bool). if b && admits_ x.job then Some x.job else first_from (λ x. admits_ x.job) from xs) one ∙ ap (λ o. if admits_ x.job then Some x.job else o) ih
        ∙ sym (ap (λ (b : Bool). if b && admits_ x.job then Some x.job else first_from (λ x. admits_ x.job) (job + 1) xs) other)

-- places rise from one on
rising-drop : (low : ℕ) (xs : List Place) (i : ℕ) (d : Place) → Rising low xs → i < length xs → Rising (rank_of (get_or xs i d)) (drop (i + 1) xs)
rising-drop low [] i d up within = absurd (omega arith)
rising-drop low (x ∷ xs) zero d up within = up.1
rising-drop low (x ∷ xs) (suc i) d up within =
    let one : suc i + 1 ≡ suc (i + 1) = omega arith in
    rw one (rising-drop (rank_of x) xs i d up.1 (omega (arith, within)))

pub rising-from : (low : ℕ) (xs : List Place) (i : ℕ) → Rising low xs → Rising 0 (drop i xs)
rising-from low [] zero up = tt
rising-from low [] (suc i) up = tt
rising-from low (x ∷ xs) zero up = (omega arith, up.1)
rising-from low (x ∷ xs) (suc i) up = rising-from (rank_of x) xs i up.1

-- a place of an earlier job, of one that was asked in vain, and of one that wasn't
pub other-before : (admits_ : ℕ → Bool) (from : ℕ) (places : List Place) (i : ℕ) (d : Place) → i < length places → (get_or places i d).job < from
    → first_from (λ x. admits_ x.job) from (drop i places) ≡ first_from (λ x. admits_ x.job) from (drop (i + 1) places)
other-before admits_ from places i d within before =
    first_left (λ x. admits_ x.job) from places i d within
    ∙ ap (λ (b : Bool). if b && admits_ (get_or places i d).job then Some (get_or places i d).job else first_from (λ x. admits_ x.job) from (drop (i + 1) places)) (not-le from (get_or places i d).job before)

pub other-vain : (admits_ : ℕ → Bool) (from : ℕ) (places : List Place) (i : ℕ) (d : Place) → Rising 0 places → i < length places → from ≤ (get_or places i d).job → admits_ (get_or places i d).job ≡ false
    → first_from (λ x. admits_ x.job) from (drop i places) ≡ first_from (λ x. admits_ x.job) ((get_or places i d).job + 1) (drop (i + 1) places)
other-vain admits_ from places i d up within after none =
    let job = (get_or places i d).job in
    first_left (λ x. admits_ x.job) from places i d within
    ∙ ap (λ (a : Bool). if nat_le from job && a then Some job else first_from (λ x. admits_ x.job) from (drop (i + 1) places)) none ∙ skip (nat_le from job) _ _
    ∙ past-job admits_ from job (drop (i + 1) places) (rank_of (get_or places i d)) (rising-drop 0 places i d up within) (omega arith) after none

pub other-here : (admits_ : ℕ → Bool) (from : ℕ) (places : List Place) (i : ℕ) (d : Place) → i < length places → from ≤ (get_or places i d).job → admits_ (get_or places i d).job ≡ true
    → first_from (λ x. admits_ x.job) from (drop i places) ≡ Some (get_or places i d).job
other-here admits_ from places i d within after some =
    let job = (get_or places i d).job in
    first_left (λ x. admits_ x.job) from places i d within
    ∙ ap (λ (b : Bool). if b && admits_ job then Some job else first_from (λ x. admits_ x.job) from (drop (i + 1) places)) (le-so from job after)
    ∙ ap (λ (a : Bool). if a then Some job else first_from (λ x. admits_ x.job) from (drop (i + 1) places)) some
