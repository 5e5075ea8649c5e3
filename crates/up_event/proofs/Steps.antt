-- What each call leaves of the queue.
use Rattle.std.proofs.Common.{◌≡◌, ℕ, ◌+◌, List, [], ◌∷◌, ◌++◌, length-append, Option, None, Some, IsSome, IsSomeAnd, IfSome, option_map, refl, sym, ◌∙◌, ap, subst, arith}
use Rattle.std.proofs.lemmas.Option.{IfSome_then}
use Rattle.std.specs.Option.{option_or}
use Rattle.slab.specs.Slab.{Slab, get, slab_len, ContainsKey}
use Rattle.up_event.specs.declared.live.LiveEvent.{LiveEvent}
use Rattle.up_event.specs.declared.nodes.Node.{Node}
use Rattle.up_event.specs.Links.{after_push, after_removal, first, last_or, node_at, with_live, end_without, walk, AreLinked, Changes, IsNeighbour}
use Rattle.up_event.specs.LiveEvents.{named, with_change, without}
use Rattle.up_event.proofs.Lists.{split, distinct_push, distinct_changed, distinct_without, length_changed}
use Rattle.up_event.proofs.Linking.{id_at, live_at, last_is_named, are_others, node_push, node_changed, node_without, first_changed, last_changed, first_push, last_append, node_middle, first_without, last_without, walk_linked, linked}
use Rattle.up_model.specs.declared.event_id.EventId.{EventId}

-- the nodes rest as these events
pub record Rests (nodes : Slab Node) (oldest newest : Option ℕ) (lives : List LiveEvent) : Type 0 where
  pub invariant : AreLinked nodes oldest newest (walk nodes (slab_len nodes) oldest)
  pub view_is : walk nodes (slab_len nodes) oldest ≡ lives

pub at_rest : (nodes : Slab Node) (oldest newest : Option ℕ) (lives : List LiveEvent) → AreLinked nodes oldest newest lives → Rests nodes oldest newest lives
at_rest nodes oldest newest lives l =
    record { invariant = linked nodes oldest newest lives l; view_is = walk_linked nodes oldest newest lives l }

pub opened : (nodes : Slab Node) (oldest newest : Option ℕ) (lives : List LiveEvent) → Rests nodes oldest newest lives → AreLinked nodes oldest newest lives
opened nodes oldest newest lives r = subst (AreLinked nodes oldest newest) r.view_is r.invariant

-- what an id names has a node
lives_of : (node : Option Node) (P : LiveEvent → Type 0) → IsSomeAnd (option_map {T = Node} (λ n. n.live) node) P → IsSomeAnd node (λ n. P n.live)
lives_of None P h = h
lives_of (Some node) P h = h

pub node_of : (nodes : Slab Node) (oldest newest : Option ℕ) (lives : List LiveEvent) (id : EventId) → Rests nodes oldest newest lives
    → option_map {T = Node} (λ n. n.live) (get nodes id.key) ≡ named id lives
node_of nodes oldest newest lives id r = rw ((opened nodes oldest newest lives r).each id.key) (live_at None lives id)

pub has_node : (nodes : Slab Node) (oldest newest : Option ℕ) (lives : List LiveEvent) (id : EventId) (P : LiveEvent → Type 0) → Rests nodes oldest newest lives
    → IsSomeAnd (named id lives) P → IsSomeAnd (get nodes id.key) (λ node. P node.live)
has_node nodes oldest newest lives id P r h =
    lives_of (get nodes id.key) P (subst (λ live. IsSomeAnd live P) (sym (node_of nodes oldest newest lives id r)) h)

some_mapped : (node : Option Node) → IsSome (option_map {T = Node} (λ n. n.live) node) → IsSome node
some_mapped None h = h
some_mapped (Some node) h = refl

pub has_key : (nodes : Slab Node) (oldest newest : Option ℕ) (lives : List LiveEvent) (id : EventId) → Rests nodes oldest newest lives
    → IsSome (named id lives) → ContainsKey nodes id.key
has_key nodes oldest newest lives id r h =
    some_mapped (get nodes id.key) (subst IsSome (sym (node_of nodes oldest newest lives id r)) h)

pub some_of : (live : Option LiveEvent) (P : LiveEvent → Type 0) → IsSomeAnd live P → IsSome live
some_of None P h = absurd h
some_of (Some live) P h = refl

pub has_named_key : (nodes : Slab Node) (oldest newest : Option ℕ) (lives : List LiveEvent) (id : EventId) (P : LiveEvent → Type 0) → Rests nodes oldest newest lives
    → IsSomeAnd (named id lives) P → ContainsKey nodes id.key
has_named_key nodes oldest newest lives id P r h = has_key nodes oldest newest lives id r (some_of (named id lives) P h)

-- after a change of one event
pub changes : (old new : Slab Node) (oldest newest : Option ℕ) (lives : List LiveEvent) (id : EventId) (change : LiveEvent → LiveEvent)
    → ((live : LiveEvent) → (change live).id ≡ live.id) → Rests old oldest newest lives → Changes old new (with_live id.key change)
    → Rests new oldest newest (with_change id change lives)
changes old new oldest newest lives id change keeps r h =
    let l = opened old oldest newest lives r in
    at_rest new oldest newest (with_change id change lives) (record {
      each = λ key. h.nodes key ∙ ap (with_live id.key change key) (l.each key) ∙ sym (node_changed None id change lives key keeps);
      count = h.count ∙ l.count ∙ sym (length_changed id change lives);
      from = l.from ∙ sym (first_changed id change lives keeps);
      to = l.to ∙ sym (last_changed None id change lives keeps);
      distinct = distinct_changed id change lives keeps l.distinct;
    })

-- the event of a node is what its id names
pub found : (nodes : Slab Node) (oldest newest : Option ℕ) (lives : List LiveEvent) (id : EventId) (node : Node) → Rests nodes oldest newest lives
    → get nodes id.key ≡ Some node → named id lives ≡ Some node.live
found nodes oldest newest lives id node r h = sym (node_of nodes oldest newest lives id r) ∙ ap (option_map {T = Node} (λ n. n.live)) h

-- a key without a node names nothing
pub vacant : (nodes : Slab Node) (oldest newest : Option ℕ) (lives : List LiveEvent) (id : EventId) → Rests nodes oldest newest lives
    → get nodes id.key ≡ None → named id lives ≡ None
vacant nodes oldest newest lives id r h = sym (node_of nodes oldest newest lives id r) ∙ ap (option_map {T = Node} (λ n. n.live)) h

-- the newest has a node
pub newest_has_key : (nodes : Slab Node) (oldest newest : Option ℕ) (lives : List LiveEvent) → Rests nodes oldest newest lives → IfSome newest (ContainsKey nodes)
newest_has_key nodes oldest newest lives r =
    subst (λ at. IfSome at (ContainsKey nodes)) (sym (opened nodes oldest newest lives r).to)
    (IfSome_then (last_or None lives) (last_is_named lives) (λ key named. has_key nodes oldest newest lives (id_at key) r named))

-- after a push
pub pushes : (old new : Slab Node) (oldest newest : Option ℕ) (lives : List LiveEvent) (live : LiveEvent) → Rests old oldest newest lives → get old live.id.key ≡ None
    → ((key : ℕ) → get new key ≡ after_push newest live key (get old key))
    → slab_len new ≡ slab_len old + 1
    → Rests new (option_or oldest (Some live.id.key)) (Some live.id.key) (lives ++ live ∷ [])
pushes old new oldest newest lives live r free nodes count =
    let l = opened old oldest newest lives r in
    let absent = vacant old oldest newest lives live.id r free in
    at_rest new _ _ (lives ++ live ∷ []) (record {
      each = λ key. nodes key ∙ rw (l.each key, l.to) (sym (node_push None lives live key l.distinct absent));
      count = count ∙ omega (arith, l.count, length-append lives (live ∷ []));
      from = rw l.from (first_push lives live);
      to = sym (last_append None lives (live ∷ []));
      distinct = distinct_push lives live l.distinct absent;
    })

-- a refusal leaves all as it was
pub refuses : (old new : Slab Node) (oldest newest : Option ℕ) (lives : List LiveEvent) → Rests old oldest newest lives → new ≡ record old { capacity = new.capacity }
    → Rests new oldest newest lives
refuses old new oldest newest lives r same =
    let l = opened old oldest newest lives r in
    let slots : new.slots ≡ old.slots = ap (λ (s : Slab Node). s.slots) same in
    at_rest new oldest newest lives (record {
      each = λ key. rw slots (l.each key);
      count = rw slots l.count;
      from = l.from;
      to = l.to;
      distinct = l.distinct;
    })

-- the neighbours of a node are other nodes
neighbours : (nodes : Slab Node) (oldest newest : Option ℕ) (lives : List LiveEvent) (key : ℕ) (node : Node) → Rests nodes oldest newest lives
    → get nodes key ≡ Some node → IsNeighbour nodes key node.older × IsNeighbour nodes key node.newer
neighbours nodes oldest newest lives key node r at =
    let l = opened nodes oldest newest lives r in
    let others = are_others lives key node l.distinct (sym (l.each key) ∙ at) in (
      IfSome_then node.older others.0 (λ other o. (o.0, has_key nodes oldest newest lives (id_at other) r o.1)),
      IfSome_then node.newer others.1 (λ other o. (o.0, has_key nodes oldest newest lives (id_at other) r o.1)),
    )

pub may_take : (nodes : Slab Node) (oldest newest : Option ℕ) (lives : List LiveEvent) (key : ℕ) → Rests nodes oldest newest lives → ContainsKey nodes key
    → IsSomeAnd (get nodes key) (λ node. IsNeighbour nodes key node.older × IsNeighbour nodes key node.newer)
may_take nodes oldest newest lives key r h = by_case (get nodes key) refl h
  where
    by_case : (found : Option Node) → get nodes key ≡ found → IsSome found → IsSomeAnd found (λ node. IsNeighbour nodes key node.older × IsNeighbour nodes key node.newer)
    by_case None at h = absurd cc
    by_case (Some node) at h = neighbours nodes oldest newest lives key node r at

-- after one is taken out
without_middle : (old new : Slab Node) (oldest newest older newer : Option ℕ) (before : List LiveEvent) (live : LiveEvent) (after : List LiveEvent) (key : ℕ)
    → AreLinked old oldest newest (before ++ live ∷ after) → key ≡ live.id.key → older ≡ last_or None before → newer ≡ first after
    → ((other : ℕ) → get new other ≡ after_removal key older newer other (get old other))
    → slab_len new + 1 ≡ slab_len old
    → Rests new (end_without older oldest newer) (end_without newer newest older) (before ++ after)
without_middle old new oldest newest older newer before live after key l same is_older is_newer nodes count =
    at_rest new _ _ (before ++ after) (record {
      each = λ other. nodes other ∙ rw (is_older, is_newer, same, l.each other) (sym (node_without before None live after other l.distinct (λ e. absurd cc)));
      count = omega (arith, count, l.count, length-append before after, length-append before (live ∷ after));
      from = rw (is_older, is_newer, l.from) (sym (first_without before live after));
      to = rw (is_newer, is_older, l.to) (sym (last_without before live after));
      distinct = distinct_without before live after l.distinct;
    })

pub takes : (old new : Slab Node) (oldest newest : Option ℕ) (lives : List LiveEvent) (id : EventId) (node : Node) → Rests old oldest newest lives → get old id.key ≡ Some node
    → ((key : ℕ) → get new key ≡ after_removal id.key node.older node.newer key (get old key))
    → slab_len new + 1 ≡ slab_len old
    → Rests new (end_without node.older oldest node.newer) (end_without node.newer newest node.older) (without id lives)
takes old new oldest newest lives id node r at nodes count =
    let s = split id node.live lives (found old oldest newest lives id node r at) in
    let l : AreLinked old oldest newest (s.before ++ node.live ∷ s.after) = subst (AreLinked old oldest newest) s.whole (opened old oldest newest lives r) in
    let is : Some node ≡ Some (record { live = node.live; older = last_or None s.before; newer = first s.after }) =
    sym at ∙ l.each id.key ∙ ap (node_at None (s.before ++ node.live ∷ s.after)) s.same ∙ node_middle s.before None node.live s.after l.distinct in
    subst (Rests new (end_without node.older oldest node.newer) (end_without node.newer newest node.older)) (sym s.others)
    (without_middle old new oldest newest node.older node.newer s.before node.live s.after id.key l s.same (cc is) (cc is) nodes count)
