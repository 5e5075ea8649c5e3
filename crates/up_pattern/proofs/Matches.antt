-- Matching one item at a time: that it is what the ways to cut the bytes say, and why only the last run is made longer.
use Rattle.std.proofs.Common.{◌≡◌, ℕ, ◌+◌, ◌-◌, ◌≤◌, Bool, true, false, cond, not, ◌&&◌, ◌||◌, List, [], ◌∷◌, map, length, drop, replicate, slice_get, zero, suc, refl, sym, ap, subst, inl, inr, ◌∙◌, arith}
use Rattle.std.specs.Prelude.{◌==◌, Option, None, Some, is_some}
use Rattle.std.specs.List.{list_any, flat_map}
use Rattle.std.proofs.lemmas.List.{drop-drop}
use Rattle.std.proofs.lemmas.List.Folds.{list_any-append}
use Rattle.std.proofs.lemmas.Bool.{or_cases, or_left, or_right, and_parts, both_ways, false≢true, not-true, ne_eqb}
use Rattle.up_pattern.specs.Matching.{Knows, star_from, one_from, item_from, is_run, is_nil, items_match, Takes, TakesNone, TakesOne, Leads}
use Rattle.up_pattern.specs.Pattern.{Item, Run, Any, Only, Among, Never, Class, admits_byte, is_byte_of, admits, all_admit, splits, cuts, fits, fits_if, is_class, all_items, items, supported, glob}

-- the cuts
any-map : {X Y : Type 0} (test : Y → Bool) (f : X → Y) (xs : List X) → list_any test (map f xs) ≡ list_any (λ x. test (f x)) xs
any-map test f [] = refl
any-map test f (x ∷ xs) = ap (λ b. test (f x) || b) (any-map test f xs)

any-flat_map : {X Y : Type 0} (test : Y → Bool) (f : X → List Y) (xs : List X) → list_any test (flat_map f xs) ≡ list_any (λ x. list_any test (f x)) xs
any-flat_map test f [] = refl
any-flat_map test f (x ∷ xs) = list_any-append test (f x) (flat_map f xs) ∙ ap (λ b. list_any test (f x) || b) (any-flat_map test f xs)

any-same : {X : Type 0} (p q : X → Bool) → ((x : X) → p x ≡ q x) → (xs : List X) → list_any p xs ≡ list_any q xs
any-same p q same [] = refl
any-same p q same (x ∷ xs) = ap (λ b. b || list_any p xs) (same x) ∙ ap (λ b. q x || b) (any-same p q same xs)

any-none : {X : Type 0} (xs : List X) → list_any (λ x. false) xs ≡ false
any-none [] = refl
any-none (x ∷ xs) = any-none xs

any-and : {X : Type 0} (b : Bool) (p : X → Bool) (xs : List X) → list_any (λ x. b && p x) xs ≡ (b && list_any p xs)
any-and true p xs = refl
any-and false p xs = any-none xs

-- a run over every way to cut in two
splits-star : (test : List ℕ → Bool) (bytes : List ℕ) → list_any (λ split. test split.1) (splits bytes) ≡ star_from test bytes
splits-star test [] = by_case (test [])
  where
    by_case : (b : Bool) → (b || false) ≡ b
    by_case true = refl
    by_case false = refl
splits-star test (byte ∷ bytes) =
    ap (λ b. test (byte ∷ bytes) || b) (any-map (λ split. test split.1) (λ split. (byte ∷ split.0, split.1)) (splits bytes) ∙ splits-star test bytes)

-- one byte over every way to cut in two
splits-beyond : (item : Item) (test : List ℕ → Bool) (byte : ℕ) (bytes : List ℕ) → list_any (λ split. is_byte_of item (byte ∷ split.0) && test split.1) (splits bytes) ≡ (admits_byte item byte && test bytes)
splits-beyond item test byte [] = by_case (admits_byte item byte && test [])
  where
    by_case : (b : Bool) → (b || false) ≡ b
    by_case true = refl
    by_case false = refl
splits-beyond item test byte (next ∷ bytes) =
    ap (λ b. (admits_byte item byte && test (next ∷ bytes)) || b) (any-map (λ split. is_byte_of item (byte ∷ split.0) && test split.1) (λ split. (next ∷ split.0, split.1)) (splits bytes) ∙ any-none (splits bytes))
    ∙ by_case (admits_byte item byte && test (next ∷ bytes))
  where
    by_case : (b : Bool) → (b || false) ≡ b
    by_case true = refl
    by_case false = refl

splits-one : (item : Item) (test : List ℕ → Bool) (bytes : List ℕ) → list_any (λ split. is_byte_of item split.0 && test split.1) (splits bytes) ≡ one_from item test bytes
splits-one item test [] = refl
splits-one item test (byte ∷ bytes) =
    any-map (λ split. is_byte_of item split.0 && test split.1) (λ split. (byte ∷ split.0, split.1)) (splits bytes) ∙ splits-beyond item test byte bytes

splits-item : (item : Item) (test : List ℕ → Bool) (bytes : List ℕ) → list_any (λ split. admits item split.0 && test split.1) (splits bytes) ≡ item_from item test bytes
splits-item Run test bytes = splits-star test bytes
splits-item Any test bytes = splits-one Any test bytes
splits-item (Only byte) test bytes = splits-one (Only byte) test bytes
splits-item (Among inverted ranges) test bytes = splits-one (Among inverted ranges) test bytes
splits-item Never test bytes = splits-one Never test bytes
splits-item Class test bytes = splits-one Class test bytes

-- one item at a time is the same as every cut
pub fits-matches : (items : List Item) (bytes : List ℕ) → fits items bytes ≡ items_match items bytes
fits-matches [] [] = refl
fits-matches [] (byte ∷ bytes) = refl
fits-matches (item ∷ items) bytes =
    any-flat_map (all_admit (item ∷ items)) (λ split. map (λ pieces. split.0 ∷ pieces) (cuts (length items) split.1)) (splits bytes)
    ∙ any-same _ (λ split. admits item split.0 && items_match items split.1)
    (λ split.
    any-map (all_admit (item ∷ items)) (λ pieces. split.0 ∷ pieces) (cuts (length items) split.1)
    ∙ any-and (admits item split.0) (all_admit items) (cuts (length items) split.1)
    ∙ ap (λ b. admits item split.0 && b) (fits-matches items split.1))
    (splits bytes)
    ∙ splits-item item (items_match items) bytes

-- a run that succeeds at an end of the bytes succeeds at them
star-drop : (test : List ℕ → Bool) (count : ℕ) (bytes : List ℕ) → star_from test (drop count bytes) ≡ true → star_from test bytes ≡ true
star-drop test zero bytes passes = passes
star-drop test (suc count) [] passes = passes
star-drop test (suc count) (byte ∷ bytes) passes = or_right _ _ (star-drop test count bytes passes)

-- a run that succeeds does so at some end
star-finds : (test : List ℕ → Bool) (bytes : List ℕ) → star_from test bytes ≡ true → (count : ℕ) × (test (drop count bytes) ≡ true)
star-finds test [] passes = (0, passes)
star-finds test (byte ∷ bytes) passes =
    elim (or_cases _ _ passes) [
      | inl here ↦ (0, here)
      | inr later ↦ let found = star-finds test bytes later in (suc found.0, found.1)
    ]

-- what passes at the bytes
pub star-here : (test : List ℕ → Bool) (bytes : List ℕ) → test bytes ≡ true → star_from test bytes ≡ true
star-here test [] passes = passes
star-here test (byte ∷ bytes) passes = or_left _ _ passes

-- if the items after a later run fail, a longer run before it doesn't help
pub absorbs : (items : List Item) (bytes : List ℕ) (later : List Item) (left : List ℕ) → Leads items bytes later left → star_from (items_match items) bytes ≡ star_from (items_match later) left
absorbs items bytes later left leads =
    by_case (star_from (items_match items) bytes) (star_from (items_match later) left) refl refl
  where
    by_case : (early late : Bool) → star_from (items_match items) bytes ≡ early → star_from (items_match later) left ≡ late → early ≡ late
    by_case true true p q = refl
    by_case false false p q = refl
    by_case false true p q = absurd (both_ways _ p (star-here (items_match items) bytes (leads.same ∙ q)))
    by_case true false p q =
        let found = star-finds (items_match items) bytes p in
        let n = length bytes - length left in
        let later_here = leads.needs (drop found.0 bytes) found.1 in
        let order : drop n (drop found.0 bytes) ≡ drop found.0 (drop n bytes) = drop-drop n found.0 bytes ∙ ap (λ k. drop k bytes) (omega arith) ∙ sym (drop-drop found.0 n bytes) in
        let at_left = subst (λ bs. star_from (items_match later) bs ≡ true) (order ∙ ap (drop found.0) (sym leads.beyond)) later_here in
        absurd (both_ways _ q (star-drop (items_match later) found.0 left at_left))

-- an item that takes one byte
one-takes : (item : Item) (test : List ℕ → Bool) (bytes beyond : List ℕ) → TakesOne item bytes beyond → one_from item test bytes ≡ test beyond
one-takes item test [] beyond takes = absurd takes
one-takes item test (byte ∷ bytes) beyond takes = rw (takes.0, takes.1) refl

one-fails : (item : Item) (test : List ℕ → Bool) (bytes : List ℕ) → TakesNone item bytes → one_from item test bytes ≡ false
one-fails item test [] takes = refl
one-fails item test (byte ∷ bytes) takes = rw takes refl

one-needs : (item : Item) (test : List ℕ → Bool) (bytes : List ℕ) → one_from item test bytes ≡ true → test (drop 1 bytes) ≡ true
one-needs item test [] passes = absurd (false≢true passes)
one-needs item test (byte ∷ bytes) passes = (and_parts _ _ passes).1

no_run : (item : Item) (test : List ℕ → Bool) (bytes : List ℕ) → is_run item ≡ false → item_from item test bytes ≡ one_from item test bytes
no_run Run test bytes other = absurd (false≢true (sym other))
no_run Any test bytes other = refl
no_run (Only byte) test bytes other = refl
no_run (Among inverted ranges) test bytes other = refl
no_run Never test bytes other = refl
no_run Class test bytes other = refl

a_run : (item : Item) (test : List ℕ → Bool) (bytes : List ℕ) → is_run item ≡ true → item_from item test bytes ≡ star_from test bytes
a_run Run test bytes is = refl
a_run Any test bytes is = absurd (false≢true is)
a_run (Only byte) test bytes is = absurd (false≢true is)
a_run (Among inverted ranges) test bytes is = absurd (false≢true is)
a_run Never test bytes is = absurd (false≢true is)
a_run Class test bytes is = absurd (false≢true is)

-- the items begin
pub takes-start : (items : List Item) (bytes : List ℕ) → Takes items bytes items bytes
takes-start items bytes =
    let none : length bytes - length bytes ≡ 0 = omega arith in
    record {
      same = refl;
      beyond = rw none refl;
      shorter = omega arith;
      needs = λ others passes. rw none passes;
    }

takes-length : (item : Item) (bytes beyond : List ℕ) → TakesOne item bytes beyond → length bytes ≡ length beyond + 1
takes-length item [] beyond takes = absurd takes
takes-length item (byte ∷ bytes) beyond takes = rw takes.1 (omega arith)

pub takes-shorter : (item : Item) (bytes beyond : List ℕ) → TakesOne item bytes beyond → length beyond ≤ length bytes
takes-shorter item bytes beyond takes = let more = takes-length item bytes beyond takes in omega (arith, more)

takes-drop : (item : Item) (bytes beyond : List ℕ) → TakesOne item bytes beyond → beyond ≡ drop 1 bytes
takes-drop item [] beyond takes = absurd takes
takes-drop item (byte ∷ bytes) beyond takes = takes.1

-- one more item takes a byte
pub takes-more : (items : List Item) (bytes : List ℕ) (now : List Item) (left : List ℕ) (item : Item) (later : List Item) (beyond : List ℕ)
    → Takes items bytes now left → now ≡ item ∷ later → is_run item ≡ false → TakesOne item left beyond → Takes items bytes later beyond
takes-more items bytes now left item later beyond takes is other one =
    let lengths = takes-length item left beyond one in
    let fewer = takes.shorter in
    let n = length bytes - length left in
    let next : length bytes - length beyond ≡ n + 1 = omega arith in
    record {
      same = takes.same ∙ ap (λ read. items_match read left) is ∙ no_run item (items_match later) left other ∙ one-takes item (items_match later) left beyond one;
      beyond = takes-drop item left beyond one ∙ ap (drop 1) takes.beyond ∙ drop-drop 1 n bytes ∙ ap (λ k. drop k bytes) (sym next);
      shorter = omega arith;
      needs = λ others passes.
          let before : items_match (item ∷ later) (drop n others) ≡ true = subst (λ read. items_match read (drop n others) ≡ true) is (takes.needs others passes) in
          let one_before = sym (no_run item (items_match later) (drop n others) other) ∙ before in
          subst (λ bs. items_match later bs ≡ true) (drop-drop 1 n others ∙ ap (λ k. drop k others) (sym next)) (one-needs item (items_match later) (drop n others) one_before);
    }

-- up to a run
pub takes-run : (items : List Item) (bytes : List ℕ) (now : List Item) (left : List ℕ) (item : Item) (later : List Item)
    → Takes items bytes now left → now ≡ item ∷ later → is_run item ≡ true → Leads items bytes later left
takes-run items bytes now left item later takes is run =
    record {
      same = takes.same ∙ ap (λ read. items_match read left) is ∙ a_run item (items_match later) left run;
      beyond = takes.beyond;
      needs = λ others passes.
          let n = length bytes - length left in
          let before : items_match (item ∷ later) (drop n others) ≡ true = subst (λ read. items_match read (drop n others) ≡ true) is (takes.needs others passes) in
          sym (a_run item (items_match later) (drop n others) run) ∙ before;
    }

pub takes-first : (item : Item) (bytes : List ℕ) (byte : ℕ) (beyond : List ℕ) → bytes ≡ byte ∷ beyond → admits_byte item byte ≡ true → TakesOne item bytes beyond
takes-first item bytes byte beyond is admitted = subst (λ bs. TakesOne item bs beyond) (sym is) (admitted, refl)

-- one item more before those that lead up to a run
pub leads-more : (item : Item) (items : List Item) (bytes beyond : List ℕ) (later : List Item) (left : List ℕ)
    → is_run item ≡ false → TakesOne item bytes beyond → length left ≤ length beyond → Leads items beyond later left → Leads (item ∷ items) bytes later left
leads-more item items bytes beyond later left other one shorter leads =
    let lengths = takes-length item bytes beyond one in
    let n = length beyond - length left in
    let next : length bytes - length left ≡ 1 + n = omega arith in
    record {
      same = no_run item (items_match items) bytes other ∙ one-takes item (items_match items) bytes beyond one ∙ leads.same;
      beyond = leads.beyond ∙ ap (drop n) (takes-drop item bytes beyond one) ∙ drop-drop n 1 bytes ∙ ap (λ k. drop k bytes) (sym next);
      needs = λ others passes.
          let one_before = sym (no_run item (items_match items) others other) ∙ passes in
          let at_later = leads.needs (drop 1 others) (one-needs item (items_match items) others one_before) in
          subst (λ bs. star_from (items_match later) bs ≡ true) (drop-drop n 1 others ∙ ap (λ k. drop k others) (sym next)) at_later;
    }

-- a run after a run
star-star : (test : List ℕ → Bool) (bytes : List ℕ) → star_from (star_from test) bytes ≡ star_from test bytes
star-star test [] = refl
star-star test (byte ∷ bytes) = ap (λ b. (test (byte ∷ bytes) || star_from test bytes) || b) (star-star test bytes) ∙ by_case (test (byte ∷ bytes)) (star_from test bytes)
  where
    by_case : (b c : Bool) → ((b || c) || c) ≡ (b || c)
    by_case true c = refl
    by_case false true = refl
    by_case false false = refl

star-same : (p q : List ℕ → Bool) → ((bytes : List ℕ) → p bytes ≡ q bytes) → (bytes : List ℕ) → star_from p bytes ≡ star_from q bytes
star-same p q same [] = same []
star-same p q same (byte ∷ bytes) = ap (λ b. b || star_from p bytes) (same (byte ∷ bytes)) ∙ ap (λ b. q (byte ∷ bytes) || b) (star-same p q same bytes)

pub run-run : (item : Item) (items : List Item) (bytes : List ℕ) → is_run item ≡ true → star_from (items_match items) bytes ≡ star_from (items_match (item ∷ items)) bytes
run-run item items bytes run =
    sym (star-same (items_match (item ∷ items)) (star_from (items_match items)) (λ bs. a_run item (items_match items) bs run) bytes ∙ star-star (items_match items) bytes)

-- no items after a run match the end of the bytes
pub run-end : (bytes : List ℕ) → star_from (items_match []) bytes ≡ true
run-end [] = refl
run-end (byte ∷ bytes) = run-end bytes

nothing : (count byte : ℕ) (admitted : Bool) → slice_get (replicate count None) byte ≡ Some (Some admitted) → ⊥
nothing zero byte admitted got = cc
nothing (suc count) zero admitted got = cc
nothing (suc count) (suc byte) admitted got = nothing count byte admitted got

-- if nothing is known, nothing wrong is
pub knows-nothing : (known : List (Option Bool)) (item : Item) → known ≡ replicate 256 None → Knows known item
knows-nothing known item none = λ byte admitted got. absurd (nothing 256 byte admitted (rw none at got))

-- or up to one that fails
pub takes-fails : (items : List Item) (bytes : List ℕ) (now : List Item) (left : List ℕ) (item : Item) (later : List Item)
    → Takes items bytes now left → now ≡ item ∷ later → is_run item ≡ false → TakesNone item left → items_match items bytes ≡ false
takes-fails items bytes now left item later takes is other none =
    takes.same ∙ ap (λ read. items_match read left) is ∙ no_run item (items_match later) left other ∙ one-fails item (items_match later) left none

-- or up to the last
nil-length : (bytes : List ℕ) → is_nil bytes ≡ (length bytes == 0)
nil-length [] = refl
nil-length (byte ∷ bytes) = sym (ne_eqb _ 0 (λ none. omega arith))

pub takes-end : (items : List Item) (bytes : List ℕ) (now : List Item) (left : List ℕ) → Takes items bytes now left → now ≡ [] → items_match items bytes ≡ (length left == 0)
takes-end items bytes now left takes is = takes.same ∙ ap (λ read. items_match read left) is ∙ nil-length left

pub ruleset takings = (takes-start, takes-more, takes-run, takes-fails, takes-end)

-- whole patterns
pub supported-is : (pattern : List ℕ) → supported pattern ≡ not (list_any is_class (all_items pattern))
unfolding supported items
supported-is pattern = by_case (list_any is_class (all_items pattern))
  where
    by_case : (b : Bool) → is_some (cond b None (Some (all_items pattern))) ≡ not b
    by_case true = refl
    by_case false = refl

pub glob-unsupported : (pattern bytes : List ℕ) → supported pattern ≡ false → glob pattern bytes ≡ false
unfolding supported glob
glob-unsupported pattern bytes none = by_case (items pattern) none
  where
    by_case : (read : Option (List Item)) → is_some read ≡ false → fits_if read bytes ≡ false
    by_case None none = refl
    by_case (Some read) none = absurd (false≢true (sym none))

pub glob-supported : (pattern bytes : List ℕ) → supported pattern ≡ true → glob pattern bytes ≡ items_match (all_items pattern) bytes
unfolding glob items
glob-supported pattern bytes is =
    let no_class : list_any is_class (all_items pattern) ≡ false = not-true _ (sym (supported-is pattern) ∙ is) in
    rw no_class (fits-matches (all_items pattern) bytes)

-- a class among the items
pub class-now : (pattern rest later : List ℕ) (item : Item) → list_any is_class (all_items rest) ≡ list_any is_class (all_items pattern) → all_items rest ≡ item ∷ all_items later → is_class item ≡ true → false ≡ supported pattern
class-now pattern rest later item same is class =
    let here : list_any is_class (item ∷ all_items later) ≡ true = or_left _ _ class in
    sym (supported-is pattern ∙ ap not (sym same ∙ ap (list_any is_class) is ∙ here))

pub class-later : (pattern rest later : List ℕ) (item : Item) → list_any is_class (all_items rest) ≡ list_any is_class (all_items pattern) → all_items rest ≡ item ∷ all_items later → is_class item ≡ false
    → list_any is_class (all_items later) ≡ list_any is_class (all_items pattern)
class-later pattern rest later item same is other =
    sym (ap (λ b. b || list_any is_class (all_items later)) other) ∙ sym (ap (list_any is_class) is) ∙ same

pub class-none : (pattern rest : List ℕ) → list_any is_class (all_items rest) ≡ list_any is_class (all_items pattern) → all_items rest ≡ [] → true ≡ supported pattern
class-none pattern rest same is = sym (supported-is pattern ∙ ap not (sym same ∙ ap (list_any is_class) is))
