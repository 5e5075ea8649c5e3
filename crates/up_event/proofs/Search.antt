-- The search for a turn along the links.
use Rattle.std.proofs.Common.{◌≡◌, ℕ, ◌<◌, ◌==◌, Bool, true, false, List, [], ◌∷◌, length, Option, None, Some, IsSome, is_some, cond, refl, sym, ◌∙◌, ap, subst, arith, inl, inr, eqb-true, eq-eqb, ne_eqb}
use Rattle.std.proofs.lemmas.Bool.{eqb-false}
use Rattle.std.proofs.lemmas.Bool.Decides.{eqb_tells}
use Rattle.slab.specs.Slab.{Slab, get, ContainsKey}
use Rattle.up_event.specs.declared.live.LiveEvent.{LiveEvent}
use Rattle.up_event.specs.declared.nodes.Node.{Node}
use Rattle.up_event.specs.Links.{after, first, from, from_key, node_at}
use Rattle.up_event.specs.LiveEvents.{is, named, AreDistinct, next_turn, or_later, turn_of}
use Rattle.up_event.proofs.Lists.{absent_parts}
use Rattle.up_event.proofs.Steps.{Rests, opened}
use Rattle.up_model.specs.declared.event_id.EventId.{EventId}

-- the search is at a key, before which it found nothing since it began
pub record Left (lives : List LiveEvent) (start at : Option ℕ) : Type 0 where
  pub starts : first (from at lives) ≡ at
  pub turn : next_turn (from at lives) ≡ next_turn (from start lives)

-- a node, and those after it
pub record Next (lives : List LiveEvent) (older : Option ℕ) (key : ℕ) : Type 0 where
  pub node : Node
  pub is : node_at older lives key ≡ Some node
  pub all : from_key key lives ≡ node.live ∷ from node.newer lives
  pub starts : first (from node.newer lives) ≡ node.newer

-- who is among them isn't one who isn't
differs : (lives : List LiveEvent) (live : LiveEvent) (key : ℕ) → first (from_key key lives) ≡ Some key → named live.id lives ≡ None → (live.id.key == key) ≡ false
differs [] live key starts absent = absurd cc
differs (x ∷ xs) live key starts absent =
    let parts = absent_parts live.id x xs absent in
    elim (eqb_tells x.id.key key) [
      | inl same ↦ ne_eqb live.id.key key (λ k. eqb-false x.id.key live.id.key parts.0 (same.1 ∙ sym k))
      | inr other ↦ differs xs live key (rw other.0 at starts) parts.1
    ]

from_cons : (x : LiveEvent) (xs : List LiveEvent) (at : Option ℕ) → named x.id xs ≡ None → first (from at xs) ≡ at → from at (x ∷ xs) ≡ from at xs
from_cons x xs None absent starts = refl
from_cons x xs (Some key) absent starts = rw (differs xs x key starts absent) refl

from_first : (lives : List LiveEvent) → from (first lives) lives ≡ lives
from_first [] = refl
from_first (x ∷ xs) = rw (eq-eqb x.id.key x.id.key refl) refl

pub next : (lives : List LiveEvent) (older : Option ℕ) (key : ℕ) → AreDistinct lives → first (from_key key lives) ≡ Some key → Next lives older key
next [] older key d starts = absurd cc
next (x ∷ xs) older key d starts =
    elim (eqb_tells x.id.key key) [
      | inl same ↦
          let whole : from (first xs) xs ≡ xs = from_first xs in
          let begins : first (from (first xs) xs) ≡ first xs = ap first whole in
          let later : from (first xs) (x ∷ xs) ≡ from (first xs) xs = from_cons x xs (first xs) d.0 begins in
          record {
            node = record { live = x; older = older; newer = first xs };
            is = rw same.0 refl;
            all = rw same.0 (ap (λ ls. x ∷ ls) (sym (later ∙ whole)));
            starts = ap first later ∙ begins;
          }
      | inr other ↦
          let n = next xs (Some x.id.key) key d.1 (rw other.0 at starts) in
          let later : from n.node.newer (x ∷ xs) ≡ from n.node.newer xs = from_cons x xs n.node.newer d.0 n.starts in
          record {
            node = n.node;
            is = rw other.0 n.is;
            all = rw other.0 (n.all ∙ ap (λ ls. n.node.live ∷ ls) (sym later));
            starts = ap first later ∙ n.starts;
          }
    ]

-- a step of the search, at a node
pub record Step (lives : List LiveEvent) (start at : Option ℕ) (node : Node) : Type 0 where
  pub turn : next_turn (from start lives) ≡ or_later (turn_of node.live) (next_turn (from node.newer lives))
  pub starts : first (from node.newer lives) ≡ node.newer
  pub fewer : length (from node.newer lives) < length (from at lives)

pub there : (nodes : Slab Node) (oldest newest : Option ℕ) (lives : List LiveEvent) (start at : Option ℕ) (key : ℕ) → Rests nodes oldest newest lives → Left lives start at
    → at ≡ Some key → ContainsKey nodes key
there nodes oldest newest lives start at key r left is =
    let l = opened nodes oldest newest lives r in
    ap is_some (l.each key ∙ (next lives None key l.distinct (rw is at left.starts)).is)

pub step : (nodes : Slab Node) (oldest newest : Option ℕ) (lives : List LiveEvent) (start at : Option ℕ) (key : ℕ) (node : Node) → Rests nodes oldest newest lives
    → Left lives start at → at ≡ Some key → get nodes key ≡ Some node → Step lives start at node
step nodes oldest newest lives start at key node r left is here =
    let l = opened nodes oldest newest lives r in
    let n = next lives None key l.distinct (rw is at left.starts) in
    let all : from at lives ≡ n.node.live ∷ from n.node.newer lives = rw is n.all in
    let same : n.node ≡ node = cc (l.each key, n.is, here) in
    subst (Step lives start at) same (record {
      turn = sym left.turn ∙ ap next_turn all;
      starts = n.starts;
      fewer = omega (arith, ap length all);
    })

pub stays : (lives : List LiveEvent) (start at : Option ℕ) (node : Node) → Step lives start at node → turn_of node.live ≡ None → Left lives start node.newer
stays lives start at node s none = record { starts = s.starts; turn = sym (rw none at s.turn) }

-- the search begins at the oldest, at an event, or after it
pub at-oldest : (nodes : Slab Node) (oldest newest : Option ℕ) (lives : List LiveEvent) → Rests nodes oldest newest lives → from oldest lives ≡ lives
at-oldest nodes oldest newest lives r = rw ((opened nodes oldest newest lives r).from) (from_first lives)

pub at-live : (lives : List LiveEvent) (id : EventId) → IsSome (named id lives) → first (from_key id.key lives) ≡ Some id.key
at-live [] id there = absurd cc
at-live (x ∷ xs) id there = by_case (is id x) refl there (at-live xs id)
  where
    by_case : (b : Bool) → is id x ≡ b → IsSome (cond b (Some x) (named id xs)) → (IsSome (named id xs) → first (from_key id.key xs) ≡ Some id.key)
        → first (cond b (x ∷ xs) (from_key id.key xs)) ≡ Some id.key
    by_case true e h ih = ap (λ key. Some key) (eqb-true x.id.key id.key e)
    by_case false e h ih = ih h

after-is : (lives : List LiveEvent) (key : ℕ) (live : LiveEvent) (rest : List LiveEvent) → from_key key lives ≡ live ∷ rest → after key lives ≡ rest
after-is [] key live rest h = absurd cc
after-is (x ∷ xs) key live rest h = by_case (x.id.key == key) h (after-is xs key live rest)
  where
    by_case : (b : Bool) → cond b (x ∷ xs) (from_key key xs) ≡ live ∷ rest → (from_key key xs ≡ live ∷ rest → after key xs ≡ rest)
        → cond b xs (after key xs) ≡ rest
    by_case true e ih = cc
    by_case false e ih = ih e

-- the events after a node
pub record After (lives : List LiveEvent) (key : ℕ) (node : Node) : Type 0 where
  pub starts : first (from node.newer lives) ≡ node.newer
  pub are : from node.newer lives ≡ after key lives

pub after-node : (nodes : Slab Node) (oldest newest : Option ℕ) (lives : List LiveEvent) (id : EventId) (node : Node) → Rests nodes oldest newest lives
    → IsSome (named id lives) → get nodes id.key ≡ Some node → After lives id.key node
after-node nodes oldest newest lives id node r live here =
    let l = opened nodes oldest newest lives r in
    let n = next lives None id.key l.distinct (at-live lives id live) in
    let same : n.node ≡ node = cc (l.each id.key, n.is, here) in
    subst (After lives id.key) same (record {
      starts = n.starts;
      are = sym (after-is lives id.key n.node.live (from n.node.newer lives) n.all);
    })
