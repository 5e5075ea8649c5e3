-- Which nodes keep the list of live events.
use Rattle.std.proofs.Common.{◌≡◌, ◌≢◌, ◌⊎◌, ℕ, ◌==◌, Bool, true, false, List, [], ◌∷◌, ◌++◌, length, Option, None, Some, IsSome, IfSome, option_map, cond, if◌then◌else◌, refl, sym, ◌∙◌, ap, subst, inl, inr, eqb-true, eq-eqb, ne_eqb}
use Rattle.std.proofs.lemmas.Bool.{eqb-false}
use Rattle.std.proofs.lemmas.Bool.Decides.{eqb_tells}
use Rattle.up_event.specs.declared.live.LiveEvent.{LiveEvent}
use Rattle.up_event.specs.declared.nodes.Node.{Node}
use Rattle.std.proofs.lemmas.Option.{IfSome_then}
use Rattle.std.specs.Option.{option_or}
use Rattle.slab.specs.Slab.{Slab, get, slab_len}
use Rattle.up_event.specs.Links.{first, last_or, node_at, is_at, with_newer, with_older, with_live, end_without, walk, AreLinked}
use Rattle.up_event.specs.LiveEvents.{is, named, AreDistinct, with_change}
use Rattle.up_event.proofs.Lists.{absent_parts, absent_middle, is_other}
use Rattle.up_model.specs.declared.event_id.EventId.{EventId}

abbrev pub id_at : ℕ → EventId
id_at key = record { key = key }

-- the event at a key is the one that the id names
pub live_at : (older : Option ℕ) (lives : List LiveEvent) (id : EventId) → option_map {T = Node} (λ node. node.live) (node_at older lives id.key) ≡ named id lives
live_at older [] id = refl
live_at older (live ∷ lives) id = by_case (is id live) (live_at (Some live.id.key) lives id)
  where
    by_case : (b : Bool) → option_map {T = Node} (λ node. node.live) (node_at (Some live.id.key) lives id.key) ≡ named id lives
        → option_map {T = Node} (λ node. node.live) (cond b (Some (record { live = live; older = older; newer = first lives })) (node_at (Some live.id.key) lives id.key)) ≡ cond b (Some live) (named id lives)
    by_case true h = refl
    by_case false h = h

pub absent_node : (older : Option ℕ) (lives : List LiveEvent) (id : EventId) → named id lives ≡ None → node_at older lives id.key ≡ None
absent_node older [] id absent = refl
absent_node older (live ∷ lives) id absent =
    let parts = absent_parts id live lives absent in
    rw parts.0 (absent_node (Some live.id.key) lives id parts.1)

-- what names none of them isn't the newest
pub last_absent : (older : Option ℕ) (lives : List LiveEvent) (id : EventId) → is_at older id.key ≡ false → named id lives ≡ None → is_at (last_or older lives) id.key ≡ false
last_absent older [] id h absent = h
last_absent older (live ∷ lives) id h absent =
    let parts = absent_parts id live lives absent in
    last_absent (Some live.id.key) lives id parts.0 parts.1

-- an id of the younger ones
abbrev IsIn : List LiveEvent → ℕ → Type 0
IsIn lives key = IsSome (named (id_at key) lives)

in_cons : (live : LiveEvent) (lives : List LiveEvent) (key : ℕ) → IsIn lives key → IsIn (live ∷ lives) key
in_cons live lives key h = by_case (live.id.key == key)
  where
    by_case : (b : Bool) → IsSome (cond b (Some live) (named (id_at key) lives))
    by_case true = refl
    by_case false = h

in_first : (live : LiveEvent) (lives : List LiveEvent) → IsIn (live ∷ lives) live.id.key
in_first live lives = rw (eq-eqb live.id.key live.id.key refl) refl

last_is_in : (older : Option ℕ) (lives : List LiveEvent) → (last_or older lives ≡ older) ⊎ IfSome (last_or older lives) (IsIn lives)
last_is_in older [] = inl refl
last_is_in older (live ∷ lives) =
    elim (last_is_in (Some live.id.key) lives) [
      | inl same ↦ inr (subst (λ at. IfSome at (IsIn (live ∷ lives))) (sym same) (in_first live lives))
      | inr later ↦ inr (IfSome_then (last_or (Some live.id.key) lives) later (λ key h. in_cons live lives key h))
    ]

pub last_is_named : (lives : List LiveEvent) → IfSome (last_or None lives) (λ key. IsSome (named (id_at key) lives))
last_is_named lives =
    elim (last_is_in None lives) [
      | inl none ↦ subst (λ at. IfSome at (IsIn lives)) (sym none) tt
      | inr h ↦ h
    ]

abbrev IsOther : List LiveEvent → ℕ → ℕ → Type 0
IsOther lives key other = (other ≢ key) × IsIn lives other

others_cons : (live : LiveEvent) (lives : List LiveEvent) (key : ℕ) (neighbour : Option ℕ) → IfSome neighbour (IsOther lives key) → IfSome neighbour (IsOther (live ∷ lives) key)
others_cons live lives key neighbour h = IfSome_then neighbour h (λ other o. (o.0, in_cons live lives other o.1))

-- the neighbours of a node, of which the older may be the one before them all
neighbours : (older : Option ℕ) (lives : List LiveEvent) (key : ℕ) (node : Node) → AreDistinct lives → node_at older lives key ≡ Some node
    → ((node.older ≡ older) ⊎ IfSome node.older (IsOther lives key)) × IfSome node.newer (IsOther lives key)
neighbours older [] key node d at = absurd cc
neighbours older (x ∷ xs) key node d at =
    elim (eqb_tells x.id.key key) [
      | inl same ↦ here xs d same.1 (rw same.0 at at)
      | inr other ↦ there other.1 (neighbours (Some x.id.key) xs key node d.1 (rw other.0 at at))
    ]
  where
    here : (xs : List LiveEvent) → AreDistinct (x ∷ xs) → x.id.key ≡ key → Some (record { live = x; older = older; newer = first xs }) ≡ Some node
        → ((node.older ≡ older) ⊎ IfSome node.older (IsOther (x ∷ xs) key)) × IfSome node.newer (IsOther (x ∷ xs) key)
    here [] d same e =
        let newer : None ≡ node.newer = cc e in
        (inl (cc e), subst (λ at. IfSome at (IsOther (x ∷ []) key)) newer tt)
    here (y ∷ ys) d same e =
        let newer : Some y.id.key ≡ node.newer = cc e in (
          inl (cc e),
          subst (λ at. IfSome at (IsOther (x ∷ y ∷ ys) key)) newer
              (λ k. eqb-false y.id.key x.id.key (absent_parts x.id y ys d.0).0 (k ∙ sym same), in_cons x (y ∷ ys) y.id.key (in_first y ys)),
        )

    there : (x.id.key ≢ key) → ((node.older ≡ Some x.id.key) ⊎ IfSome node.older (IsOther xs key)) × IfSome node.newer (IsOther xs key)
        → ((node.older ≡ older) ⊎ IfSome node.older (IsOther (x ∷ xs) key)) × IfSome node.newer (IsOther (x ∷ xs) key)
    there differs (inl same, newer) =
        (inr (subst (λ at. IfSome at (IsOther (x ∷ xs) key)) (sym same) (differs, in_first x xs)), others_cons x xs key node.newer newer)
    there differs (inr h, newer) = (inr (others_cons x xs key node.older h), others_cons x xs key node.newer newer)

pub are_others : (lives : List LiveEvent) (key : ℕ) (node : Node) → AreDistinct lives → node_at None lives key ≡ Some node
    → IfSome node.older (λ other. (other ≢ key) × IsSome (named (id_at other) lives)) × IfSome node.newer (λ other. (other ≢ key) × IsSome (named (id_at other) lives))
are_others lives key node d at = by_case (neighbours None lives key node d at)
  where
    by_case : ((node.older ≡ None) ⊎ IfSome node.older (IsOther lives key)) × IfSome node.newer (IsOther lives key)
        → IfSome node.older (IsOther lives key) × IfSome node.newer (IsOther lives key)
    by_case (inl none, newer) = (subst (λ at. IfSome at (IsOther lives key)) (sym none) tt, newer)
    by_case (inr older, newer) = (older, newer)

first_absent : (lives : List LiveEvent) (id : EventId) → named id lives ≡ None → is_at (first lives) id.key ≡ false
first_absent [] id absent = refl
first_absent (live ∷ lives) id absent = (absent_parts id live lives absent).0

newer_none : (at newer : Option ℕ) (key : ℕ) → with_newer at newer key None ≡ None
newer_none at newer key = by_case (is_at at key)
  where
    by_case : (b : Bool) → cond b None None ≡ (let none : Option Node = None in none)
    by_case true = refl
    by_case false = refl

older_none : (at older : Option ℕ) (key : ℕ) → with_older at older key None ≡ None
older_none at older key = by_case (is_at at key)
  where
    by_case : (b : Bool) → cond b None None ≡ (let none : Option Node = None in none)
    by_case true = refl
    by_case false = refl

-- the nodes after a push
pub node_push : (older : Option ℕ) (lives : List LiveEvent) (live : LiveEvent) (key : ℕ) → AreDistinct lives → named live.id lives ≡ None
    → node_at older (lives ++ live ∷ []) key
    ≡ (if live.id.key == key then Some (record { live = live; older = last_or older lives; newer = None })
    else with_newer (last_or older lives) (Some live.id.key) key (node_at older lives key))
node_push older [] live key d absent = ap (cond (live.id.key == key) (Some (record { live = live; older = older; newer = None }))) (sym (newer_none older (Some live.id.key) key))
node_push older (x ∷ xs) live key d absent =
    elim (eqb_tells x.id.key key) [
      | inl same ↦ at_first xs d (absent_parts live.id x xs absent).0 same.0 same.1
      | inr other ↦ rw other.0 (node_push (Some x.id.key) xs live key d.1 (absent_parts live.id x xs absent).1)
    ]
  where
    at_first : (xs : List LiveEvent) → AreDistinct (x ∷ xs) → is live.id x ≡ false → (x.id.key == key) ≡ true → x.id.key ≡ key
        → node_at older (x ∷ (xs ++ live ∷ [])) key
        ≡ (if live.id.key == key then Some (record { live = live; older = last_or (Some x.id.key) xs; newer = None })
        else with_newer (last_or (Some x.id.key) xs) (Some live.id.key) key (node_at older (x ∷ xs) key))
    at_first [] d apart same e =
        let differs : (live.id.key == key) ≡ false = ne_eqb live.id.key key (λ k. eqb-false x.id.key live.id.key apart (e ∙ sym k)) in
        rw (same, differs) refl
    at_first (y ∷ ys) d apart same e =
        let differs : (live.id.key == key) ≡ false = ne_eqb live.id.key key (λ k. eqb-false x.id.key live.id.key apart (e ∙ sym k)) in
        let last : is_at (last_or (Some y.id.key) ys) x.id.key ≡ false = last_absent None (y ∷ ys) x.id refl d.0 in
        let last_key : is_at (last_or (Some y.id.key) ys) key ≡ false = ap (is_at (last_or (Some y.id.key) ys)) (sym e) ∙ last in
        rw (same, differs, last_key) refl

live_none : (at : ℕ) (change : LiveEvent → LiveEvent) (key : ℕ) → with_live at change key None ≡ None
live_none at change key = by_case (at == key)
  where
    by_case : (b : Bool) → cond b None None ≡ (let none : Option Node = None in none)
    by_case true = refl
    by_case false = refl

pub first_changed : (id : EventId) (change : LiveEvent → LiveEvent) (lives : List LiveEvent) → ((live : LiveEvent) → (change live).id ≡ live.id)
    → first (with_change id change lives) ≡ first lives
first_changed id change [] keeps = refl
first_changed id change (live ∷ lives) keeps = by_case (is id live)
  where
    by_case : (b : Bool) → first (cond b (change live ∷ lives) (live ∷ with_change id change lives)) ≡ first (live ∷ lives)
    by_case true = ap (λ (i : EventId). Some i.key) (keeps live)
    by_case false = refl

pub last_changed : (older : Option ℕ) (id : EventId) (change : LiveEvent → LiveEvent) (lives : List LiveEvent) → ((live : LiveEvent) → (change live).id ≡ live.id)
    → last_or older (with_change id change lives) ≡ last_or older lives
last_changed older id change [] keeps = refl
last_changed older id change (live ∷ lives) keeps = by_case (is id live) (last_changed (Some live.id.key) id change lives keeps)
  where
    by_case : (b : Bool) → last_or (Some live.id.key) (with_change id change lives) ≡ last_or (Some live.id.key) lives
        → last_or older (cond b (change live ∷ lives) (live ∷ with_change id change lives)) ≡ last_or (Some live.id.key) lives
    by_case true ih = ap (λ (i : EventId). last_or (Some i.key) lives) (keeps live)
    by_case false ih = ih

-- the nodes after a change of one event
pub node_changed : (older : Option ℕ) (id : EventId) (change : LiveEvent → LiveEvent) (lives : List LiveEvent) (key : ℕ) → ((live : LiveEvent) → (change live).id ≡ live.id)
    → node_at older (with_change id change lives) key ≡ with_live id.key change key (node_at older lives key)
node_changed older id change [] key keeps = sym (live_none id.key change key)
node_changed older id change (x ∷ xs) key keeps = by_case (is id x) refl (node_changed (Some x.id.key) id change xs key keeps)
  where
    by_case : (b : Bool) → is id x ≡ b → node_at (Some x.id.key) (with_change id change xs) key ≡ with_live id.key change key (node_at (Some x.id.key) xs key)
        → node_at older (cond b (change x ∷ xs) (x ∷ with_change id change xs)) key ≡ with_live id.key change key (node_at older (x ∷ xs) key)
    by_case true e ih =
        elim (eqb_tells x.id.key key) [
          | inl same ↦
              let new_same : ((change x).id.key == key) ≡ true = ap (λ (i : EventId). i.key == key) (keeps x) ∙ same.0 in
              let id_same : (id.key == key) ≡ true = ap (λ k. k == key) (sym (eqb-true x.id.key id.key e)) ∙ same.0 in
              rw (new_same, same.0, id_same) refl
          | inr other ↦
              let new_other : ((change x).id.key == key) ≡ false = ap (λ (i : EventId). i.key == key) (keeps x) ∙ other.0 in
              let id_other : (id.key == key) ≡ false = ap (λ k. k == key) (sym (eqb-true x.id.key id.key e)) ∙ other.0 in
              rw (new_other, other.0, id_other) (ap (λ (i : EventId). node_at (Some i.key) xs key) (keeps x))
        ]
    by_case false e ih =
        elim (eqb_tells x.id.key key) [
          | inl same ↦
              let differs : (id.key == key) ≡ false = ne_eqb id.key key (λ k. eqb-false x.id.key id.key e (same.1 ∙ sym k)) in
              rw (same.0, differs, first_changed id change xs keeps) refl
          | inr other ↦ rw other.0 ih
        ]

-- the nodes if one is taken out: its neighbours are neighbours then
relinked : (older other : Option ℕ) (newer : Option ℕ) (lives : List LiveEvent) (key : ℕ) → (is_at older key ≡ true → named (id_at key) lives ≡ None)
    → node_at older lives key ≡ with_older (first lives) older key (with_newer older newer key (node_at other lives key))
relinked older other newer [] key apart = sym (rw (newer_none older newer key) refl)
relinked older other newer (x ∷ xs) key apart =
    elim (eqb_tells x.id.key key) [
      | inl same ↦ at_first (is_at older key) refl same.0
      | inr differs ↦ at_later (is_at older key) refl differs.0
    ]
  where
    at_first : (b : Bool) → is_at older key ≡ b → (x.id.key == key) ≡ true
        → node_at older (x ∷ xs) key ≡ with_older (first (x ∷ xs)) older key (with_newer older newer key (node_at other (x ∷ xs) key))
    at_first true e same = absurd (cc (same, (absent_parts (id_at key) x xs (apart e)).0))
    at_first false e same = rw (same, e) refl

    at_later : (b : Bool) → is_at older key ≡ b → (x.id.key == key) ≡ false
        → node_at older (x ∷ xs) key ≡ with_older (first (x ∷ xs)) older key (with_newer older newer key (node_at other (x ∷ xs) key))
    at_later true e differs =
        let none = absent_node (Some x.id.key) xs (id_at key) (absent_parts (id_at key) x xs (apart e)).1 in
        rw (differs, e, none) refl
    at_later false e differs = rw (differs, e) refl

pub node_without : (before : List LiveEvent) (older : Option ℕ) (live : LiveEvent) (after : List LiveEvent) (key : ℕ) → AreDistinct (before ++ live ∷ after)
    → (is_at older key ≡ true → named (id_at key) (before ++ live ∷ after) ≡ None)
    → node_at older (before ++ after) key
    ≡ with_older (first after) (last_or older before) key (with_newer (last_or older before) (first after) key
    (if live.id.key == key then None else node_at older (before ++ live ∷ after) key))
node_without [] older live after key d apart =
    elim (eqb_tells live.id.key key) [
      | inl same ↦
          let none : node_at older after key ≡ None = subst (λ k. node_at older after k ≡ None) same.1 (absent_node older after live.id d.0) in
          none ∙ sym (rw (same.0, newer_none older (first after) key, older_none (first after) older key) refl)
      | inr other ↦ rw other.0 (relinked older (Some live.id.key) (first after) after key (λ e. (absent_parts (id_at key) live after (apart e)).1))
    ]
node_without (x ∷ xs) older live after key d apart =
    elim (eqb_tells x.id.key key) [
      | inl same ↦ at_first xs d same.0 same.1
      | inr other ↦ rw other.0 (node_without xs (Some x.id.key) live after key d.1 (λ e. absurd (cc (e, other.0))))
    ]
  where
    at_first : (xs : List LiveEvent) → AreDistinct (x ∷ (xs ++ live ∷ after)) → (x.id.key == key) ≡ true → x.id.key ≡ key
        → node_at older (x ∷ (xs ++ after)) key
        ≡ with_older (first after) (last_or (Some x.id.key) xs) key (with_newer (last_or (Some x.id.key) xs) (first after) key
        (if live.id.key == key then None else node_at older (x ∷ (xs ++ live ∷ after)) key))
    at_first [] d same e =
        let parts = absent_parts x.id live after d.0 in
        let differs : (live.id.key == key) ≡ false = ap (λ k. live.id.key == k) (sym e) ∙ parts.0 in
        let newer : is_at (first after) key ≡ false = ap (is_at (first after)) (sym e) ∙ first_absent after x.id parts.1 in
        rw (same, differs, newer) refl
    at_first (z ∷ zs) d same e =
        let parts = absent_middle x.id (z ∷ zs) live after d.0 in
        let differs : (live.id.key == key) ≡ false = ap (λ k. live.id.key == k) (sym e) ∙ parts.0 in
        let newer : is_at (first after) key ≡ false = ap (is_at (first after)) (sym e) ∙ first_absent after x.id parts.2 in
        let last : is_at (last_or (Some z.id.key) zs) key ≡ false = ap (is_at (last_or (Some z.id.key) zs)) (sym e) ∙ last_absent None (z ∷ zs) x.id refl parts.1 in
        rw (same, differs, newer, last) refl

-- the two ends if one is taken out
pub last_append : (older : Option ℕ) (before after : List LiveEvent) → last_or older (before ++ after) ≡ last_or (last_or older before) after
last_append older [] after = refl
last_append older (x ∷ xs) after = last_append (Some x.id.key) xs after

pub first_push : (lives : List LiveEvent) (live : LiveEvent) → option_or (first lives) (Some live.id.key) ≡ first (lives ++ live ∷ [])
first_push [] live = refl
first_push (x ∷ xs) live = refl

-- the node of one in the middle
pub node_middle : (before : List LiveEvent) (older : Option ℕ) (live : LiveEvent) (after : List LiveEvent) → AreDistinct (before ++ live ∷ after)
    → node_at older (before ++ live ∷ after) live.id.key ≡ Some (record { live = live; older = last_or older before; newer = first after })
node_middle [] older live after d = rw (eq-eqb live.id.key live.id.key refl) refl
node_middle (x ∷ xs) older live after d =
    let differs : (x.id.key == live.id.key) ≡ false = is_other x live (absent_middle x.id xs live after d.0).0 in
    rw differs (node_middle xs (Some x.id.key) live after d.1)

last_some : (key : ℕ) (lives : List LiveEvent) (oldest inner : Option ℕ) → end_without (last_or (Some key) lives) oldest inner ≡ oldest
last_some key [] oldest inner = refl
last_some key (x ∷ xs) oldest inner = last_some x.id.key xs oldest inner

pub first_without : (before : List LiveEvent) (live : LiveEvent) (after : List LiveEvent)
    → first (before ++ after) ≡ end_without (last_or None before) (first (before ++ live ∷ after)) (first after)
first_without [] live after = refl
first_without (x ∷ xs) live after = sym (last_some x.id.key xs (Some x.id.key) (first after))

pub last_without : (before : List LiveEvent) (live : LiveEvent) (after : List LiveEvent)
    → last_or None (before ++ after) ≡ end_without (first after) (last_or None (before ++ live ∷ after)) (last_or None before)
last_without before live [] = last_append None before []
last_without before live (x ∷ xs) = last_append None before (x ∷ xs) ∙ sym (last_append None before (live ∷ x ∷ xs))

-- a walk along the links
pub walked : (nodes : Slab Node) (older : Option ℕ) (lives : List LiveEvent) → AreDistinct lives
    → ((key : ℕ) (node : Node) → node_at older lives key ≡ Some node → get nodes key ≡ Some node)
    → walk nodes (length lives) (first lives) ≡ lives
walked nodes older [] d found = refl
walked nodes older (x ∷ xs) d found =
    let here : get nodes x.id.key ≡ Some (record { live = x; older = older; newer = first xs }) = found x.id.key _ (rw (eq-eqb x.id.key x.id.key refl) refl) in
    rw here (ap (λ ls. x ∷ ls) (walked nodes (Some x.id.key) xs d.1 (λ key node at. later key node at (eqb_tells x.id.key key))))
  where
    later : (key : ℕ) (node : Node) → node_at (Some x.id.key) xs key ≡ Some node
        → ((x.id.key == key) ≡ true) × (x.id.key ≡ key) ⊎ ((x.id.key == key) ≡ false) × (x.id.key ≢ key) → get nodes key ≡ Some node
    later key node at (inl same) =
        let none : node_at (Some x.id.key) xs key ≡ None = subst (λ k. node_at (Some x.id.key) xs k ≡ None) same.1 (absent_node (Some x.id.key) xs x.id d.0) in
        absurd (cc (none, at))
    later key node at (inr other) = found key node (rw other.0 at)

pub walk_linked : (nodes : Slab Node) (oldest newest : Option ℕ) (lives : List LiveEvent) → AreLinked nodes oldest newest lives
    → walk nodes (slab_len nodes) oldest ≡ lives
walk_linked nodes oldest newest lives linked =
    rw (linked.count, linked.from) (walked nodes None lives linked.distinct (λ key node at. linked.each key ∙ at))

pub linked : (nodes : Slab Node) (oldest newest : Option ℕ) (lives : List LiveEvent) → AreLinked nodes oldest newest lives
    → AreLinked nodes oldest newest (walk nodes (slab_len nodes) oldest)
linked nodes oldest newest lives l = subst (AreLinked nodes oldest newest) (sym (walk_linked nodes oldest newest lives l)) l
