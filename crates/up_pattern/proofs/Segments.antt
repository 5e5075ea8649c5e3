-- The set of a text that is kept.
use Rattle.std.proofs.Common.{◌≡◌, ℕ, Bool, ◌+◌, ◌<◌, List, ◌∷◌, length, drop, replicate, sym, ap, subst, ◌∙◌}
use Rattle.std.specs.Prelude.{Option, None, Some}
use Rattle.std.specs.Option.{ForSome}
use Rattle.std.proofs.lemmas.List.{length-replicate, drop-drop}
use Rattle.up_pattern.specs.declared.pattern.Memo.{Memo}
use Rattle.up_pattern.specs.Pattern.{Item, all_items}
use Rattle.up_pattern.specs.Matching.{Settled, Kept, item_of_part}
use Rattle.up_pattern.proofs.Matches.{knows-nothing}

-- no set is kept
pub kept-none : (unclosed : ℕ) (text : List ℕ) → ForSome None (Kept unclosed text)
kept-none unclosed text memo is = cc

pub kept-is : (unclosed : ℕ) (text : List ℕ) (memo : Memo) → Kept unclosed text memo → ForSome (Some memo) (Kept unclosed text)
kept-is unclosed text memo kept = λ other same. let is : memo ≡ other = cc in subst (Kept unclosed text) is kept

-- a set of which nothing is known yet
pub kept-new : (unclosed : ℕ) (text : List ℕ) (memo : Memo) → drop memo.index (all_items text) ≡ item_of_part memo.part ∷ all_items memo.rest.now
    → Settled unclosed memo.rest.now → memo.index + length memo.rest.now < length text → memo.known ≡ replicate 256 None → ForSome (Some memo) (Kept unclosed text)
kept-new unclosed text memo item settled shorter none = kept-is unclosed text memo (record {
  item = item;
  settled = settled;
  shorter = shorter;
  room = rw none (length-replicate {A = Option Bool} 256 None);
  knows = knows-nothing memo.known (item_of_part memo.part) none;
})

-- one item further
pub drop-next : (index : ℕ) (items : List Item) (item : Item) (later now : List Item) → now ≡ drop index items → now ≡ item ∷ later → later ≡ drop (index + 1) items
drop-next index items item later now place is = sym (ap (drop 1) is) ∙ ap (drop 1) place ∙ drop-drop 1 index items
