-- How the live events are linked in memory. No public clause cites this module.
use Rattle.std.specs.Prelude.{◌≡◌, ◌≢◌, ℕ, zero, suc, ◌==◌, Bool, false, List, [], ◌∷◌, length, Option, None, Some, option_map, IfSome, if◌then◌else◌}
use Rattle.slab.specs.Slab.{Slab, get, slab_len, ContainsKey}
use Rattle.up_event.specs.declared.live.LiveEvent.{LiveEvent}
use Rattle.up_event.specs.declared.nodes.Node.{Node}
use Rattle.up_event.specs.LiveEvents.{AreDistinct}

-- the key of the oldest
abbrev pub first : List LiveEvent → Option ℕ
first [] = None
first (live ∷ lives) = Some live.id.key

-- the key of the newest, or of the one before them all
abbrev pub last_or : Option ℕ → List LiveEvent → Option ℕ
last_or older [] = older
last_or older (live ∷ lives) = last_or (Some live.id.key) lives

-- the node at each key, if the events after an older one are these
abbrev pub node_at : Option ℕ → List LiveEvent → ℕ → Option Node
node_at older [] key = None
node_at older (live ∷ lives) key =
    if live.id.key == key then Some (record { live = live; older = older; newer = first lives })
    else node_at (Some live.id.key) lives key

abbrev pub is_at : Option ℕ → ℕ → Bool
is_at None key = false
is_at (Some at) key = at == key

-- the node at a key after the one at `at`, if any, got another newer neighbour
abbrev pub with_newer : (at newer : Option ℕ) → ℕ → Option Node → Option Node
with_newer at newer key node = if is_at at key
    then option_map {T = Node} (λ n. record n { newer = newer }) node else node

abbrev pub with_older : (at older : Option ℕ) → ℕ → Option Node → Option Node
with_older at older key node = if is_at at key
    then option_map {T = Node} (λ n. record n { older = older }) node else node

-- the node at a key after a change of the event at `at`
abbrev pub with_live : ℕ → (LiveEvent → LiveEvent) → ℕ → Option Node → Option Node
with_live at change key node = if at == key
    then option_map {T = Node} (λ n. record n { live = change n.live }) node else node

-- the node at a key after a push of this event, which comes after the newest one
abbrev pub after_push : (newest : Option ℕ) → LiveEvent → ℕ → Option Node → Option Node
after_push newest live key node =
    if live.id.key == key then Some (record { live = live; older = newest; newer = None })
    else with_newer newest (Some live.id.key) key node

-- the node at a key after the one at `at` was taken out, of which these were the neighbours
abbrev pub after_removal : (at : ℕ) → (older newer : Option ℕ) → ℕ → Option Node → Option Node
after_removal at older newer key node =
    with_older newer older key (with_newer older newer key (if at == key then None else node))

-- an end of the queue after an event was taken out, by who stood beyond that event and on its other side
abbrev pub end_without : (beyond at inner : Option ℕ) → Option ℕ
end_without None at inner = inner
end_without (Some key) at inner = at

-- each node is changed so, by its key
pub record Changes (old new : Slab Node) (change : ℕ → Option Node → Option Node) : Type 0 where
  pub nodes : (key : ℕ) → get new key ≡ change key (get old key)
  pub count : slab_len new ≡ slab_len old

-- nobody, or another node
abbrev pub IsNeighbour : Slab Node → ℕ → Option ℕ → Type 0
IsNeighbour nodes key neighbour = IfSome neighbour (λ other. (other ≢ key) × ContainsKey nodes other)

abbrev pub onto : Option Node → (Option ℕ → List LiveEvent) → List LiveEvent
onto None rest = []
onto (Some node) rest = node.live ∷ rest node.newer

-- the events along the links to newer ones, so many at most
abbrev pub walk : Slab Node → ℕ → Option ℕ → List LiveEvent
walk nodes zero at = []
walk nodes (suc count) None = []
walk nodes (suc count) (Some key) = onto (get nodes key) (walk nodes count)

-- the nodes are these events, linked by age
pub record AreLinked (nodes : Slab Node) (oldest newest : Option ℕ) (lives : List LiveEvent) : Type 0 where
  pub each : (key : ℕ) → get nodes key ≡ node_at None lives key
  pub count : slab_len nodes ≡ length lives
  pub from : oldest ≡ first lives
  pub to : newest ≡ last_or None lives
  pub distinct : AreDistinct lives

-- the events from a key on
abbrev pub from_key : ℕ → List LiveEvent → List LiveEvent
from_key key [] = []
from_key key (live ∷ lives) = if live.id.key == key then live ∷ lives else from_key key lives

abbrev pub from : Option ℕ → List LiveEvent → List LiveEvent
from None lives = []
from (Some key) lives = from_key key lives

-- the events after the one at a key
abbrev pub after : ℕ → List LiveEvent → List LiveEvent
after key [] = []
after key (live ∷ lives) = if live.id.key == key then lives else after key lives
