-- Bytes of a text that are items by themselves.
use Rattle.std.proofs.Common.{◌≡◌, ℕ, ◌+◌, ◌-◌, ◌<◌, ◌≤◌, Bool, true, false, cond, List, [], ◌∷◌, length, drop, get_or, zero, suc, refl, sym, ap, subst, ◌∙◌, arith, drop-cons, add-one}
use Rattle.std.specs.Prelude.{◌==◌}
use Rattle.std.specs.List.{list_any}
use Rattle.std.proofs.lemmas.List.{drop-drop}
use Rattle.std.proofs.lemmas.Bool.{or_parts, and_parts, not-true, eqb-false}
use Rattle.up_pattern.specs.declared.pattern.Symbol.TheVariants.{Bare}
use Rattle.up_pattern.specs.Matching.{Settled, Takes, TakesOne, AdmitLone, admits_lone, items_match, is_lone, is_run}
use Rattle.up_pattern.specs.Pattern.{symbols, Item, Any, Only, is_class, lone_item, all_items}
use Rattle.up_pattern.proofs.ItemReading.{item-lone, reading-lone}
use Rattle.up_pattern.proofs.Matches.{takes-more, takes-start}
use Rattle.up_pattern.proofs.Segments.{drop-next}
use Rattle.up_pattern.proofs.SetReading.{first-bare}

-- a byte that neither is a run nor begins a set or an escape
record Lone (byte : ℕ) : Type 0 where
  run : (byte == 42) ≡ false
  set : (byte == 91) ≡ false
  escape : (byte == 92) ≡ false

lone : (byte : ℕ) → is_lone byte ≡ true → Lone byte
lone byte is =
    let parts = or_parts _ _ (not-true _ is) in
    let later = or_parts _ _ parts.1 in
    record { run = parts.0; set = later.0; escape = later.1 }

lone-run : (byte : ℕ) → is_lone byte ≡ true → is_run (lone_item (Bare byte)) ≡ false
lone-run byte is = let parts = lone byte is in rw parts.run (by_case (byte == 63))
  where
    by_case : (any : Bool) → is_run (cond any Any (Only byte)) ≡ false
    by_case true = refl
    by_case false = refl

lone-symbols : (byte : ℕ) (rest : List ℕ) → is_lone byte ≡ true → symbols (byte ∷ rest) ≡ Bare byte ∷ symbols rest
lone-symbols byte rest is = (first-bare (byte ∷ rest) byte rest refl (eqb-false byte 92 (lone byte is).escape)).0

lone-items : (byte : ℕ) (rest : List ℕ) → is_lone byte ≡ true → all_items (byte ∷ rest) ≡ lone_item (Bare byte) ∷ all_items rest
lone-items byte rest is =
    reading-lone (byte ∷ rest) rest (Bare byte) (lone_item (Bare byte)) (lone-symbols byte rest is) refl (item-lone (Bare byte) (symbols rest) (lone byte is).set)

next : {X : Type 0} (count : ℕ) (xs : List X) (x : X) (rest : List X) → drop count xs ≡ x ∷ rest → rest ≡ drop (count + 1) xs
next count xs x rest is = sym (ap (drop 1) is) ∙ drop-drop 1 count xs

-- so many items of a text take one byte each, and are one byte of it each
pub record TakesLone (count : ℕ) (text bytes : List ℕ) : Type 0 where
  pub takes : Takes (all_items text) bytes (all_items (drop count text)) (drop count bytes)
  pub place : all_items (drop count text) ≡ drop count (all_items text)
  pub end : symbols (drop count text) ≡ drop count (symbols text)

-- none are taken yet
lone-start : (text bytes : List ℕ) → TakesLone 0 text bytes
lone-start text bytes = record { takes = takes-start (all_items text) bytes; place = refl; end = refl }

-- one more is
lone-more : (count : ℕ) (text bytes : List ℕ) (byte other : ℕ) (rest beyond : List ℕ) → TakesLone count text bytes → drop count text ≡ byte ∷ rest → drop count bytes ≡ other ∷ beyond
    → admits_lone byte other ≡ true → TakesLone (count + 1) text bytes
lone-more count text bytes byte other rest beyond so_far is bytes_is admitted =
    let parts = and_parts _ _ admitted in
    let items : all_items (drop count text) ≡ lone_item (Bare byte) ∷ all_items rest = ap all_items is ∙ lone-items byte rest parts.0 in
    let rest_is = next count text byte rest is in
    let beyond_is = next count bytes other beyond bytes_is in
    let one : TakesOne (lone_item (Bare byte)) (drop count bytes) beyond = subst (λ bs. TakesOne (lone_item (Bare byte)) bs beyond) (sym bytes_is) (parts.1, refl) in
    let takes = takes-more (all_items text) bytes (all_items (drop count text)) (drop count bytes) (lone_item (Bare byte)) (all_items rest) beyond so_far.takes items (lone-run byte parts.0) one in
    record {
      takes = subst (λ left. Takes (all_items text) bytes (all_items (drop (count + 1) text)) left) beyond_is (subst (λ later. Takes (all_items text) bytes (all_items later) beyond) rest_is takes);
      place = ap all_items (sym rest_is) ∙ drop-next count (all_items text) (lone_item (Bare byte)) (all_items rest) (all_items (drop count text)) so_far.place items;
      end = ap symbols (sym rest_is) ∙ next count (symbols text) (Bare byte) (symbols rest) (sym so_far.end ∙ ap symbols is ∙ lone-symbols byte rest parts.0);
    }

-- bytes that admit those at their places take them
pub takes-lone : (count : ℕ) (text bytes : List ℕ) → count ≤ length text → count ≤ length bytes → AdmitLone count text bytes → TakesLone count text bytes
takes-lone zero text bytes within bytes_within admit = lone-start text bytes
takes-lone (suc count) text bytes within bytes_within admit =
    let here : count < length text = omega (arith, within) in
    let bytes_here : count < length bytes = omega (arith, bytes_within) in
    let so_far = takes-lone count text bytes (omega (arith, within)) (omega (arith, bytes_within)) (λ place before. admit place (omega (arith, before))) in
    subst (λ n. TakesLone n text bytes) (add-one count)
    (lone-more count text bytes (get_or text count 0) (get_or bytes count 0) (drop (suc count) text) (drop (suc count) bytes) so_far (drop-cons text count 0 here) (drop-cons bytes count 0 bytes_here) (admit count (omega arith)))

-- further items take one byte each
takes-takes : (items : List Item) (bytes : List ℕ) (now : List Item) (left : List ℕ) (later : List Item) (beyond : List ℕ) → Takes items bytes now left → Takes now left later beyond → Takes items bytes later beyond
takes-takes items bytes now left later beyond first second =
    let shorter = first.shorter in
    let further = second.shorter in
    let n = length bytes - length left in
    let k = length left - length beyond in
    let whole : length bytes - length beyond ≡ n + k = omega arith in
    record {
      same = first.same ∙ second.same;
      beyond = second.beyond ∙ ap (drop k) first.beyond ∙ drop-drop k n bytes ∙ ap (λ m. drop m bytes) (sym whole);
      shorter = omega arith;
      needs = λ others passes.
          subst (λ bs. items_match later bs ≡ true) (drop-drop k n others ∙ ap (λ m. drop m others) (sym whole)) (second.needs (drop n others) (first.needs others passes));
    }

any-drop : {X : Type 0} (test : X → Bool) (count : ℕ) (xs : List X) → list_any test xs ≡ false → list_any test (drop count xs) ≡ false
any-drop test zero xs none = none
any-drop test (suc count) [] none = refl
any-drop test (suc count) (x ∷ xs) none = any-drop test count xs (or_parts _ _ none).1

-- what is known of a text before is known after them
pub lone-takes : (items : List Item) (bytes rest left : List ℕ) (count : ℕ) → Takes items bytes (all_items rest) left → TakesLone count rest left → Takes items bytes (all_items (drop count rest)) (drop count left)
lone-takes items bytes rest left count before taken = takes-takes _ _ _ _ _ _ before taken.takes

pub lone-place : (items : List Item) (rest left : List ℕ) (index count : ℕ) → all_items rest ≡ drop index items → TakesLone count rest left → all_items (drop count rest) ≡ drop (index + count) items
lone-place items rest left index count place taken = taken.place ∙ ap (drop count) place ∙ drop-drop count index items

pub lone-settled : (unclosed : ℕ) (rest left : List ℕ) (count : ℕ) → Settled unclosed rest → TakesLone count rest left → Settled unclosed (drop count rest)
lone-settled unclosed rest left count settled taken = record {
  ends = λ later further. settled.ends later (count + further.0, further.1 ∙ ap (drop further.0) taken.end ∙ drop-drop further.0 count (symbols rest));
  classless = ap (list_any is_class) taken.place ∙ any-drop is_class count (all_items rest) settled.classless;
}
