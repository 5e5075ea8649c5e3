-- The index of a table: where the leaves of each event stand.
use Rattle.std.specs.Prelude.{◌≡◌, ℕ, ◌+◌, Bool, true, false, List, [], ◌∷◌, ◌++◌, length, filter, Option, None, Some, if◌then◌else◌}
use Rattle.std.specs.List.{flat_map, list_all}
use Rattle.std.specs.Str.{bytes_eq}
use Rattle.byteorder.specs.Endian.{big_bytes}
use Rattle.up_expr.specs.declared.node.Node.{Node}
use Rattle.up_expr.specs.declared.node.Node.TheVariants as node
use Rattle.up_expr.specs.Flat.{nodes_of}
use Rattle.up_expr.specs.Trees.{Tree}
use Rattle.up_conf.specs.declared.job.JobDef.{JobDef}
use Rattle.up_conf.specs.Order.{in_order, is_below}
use Rattle.up_image.specs.declared.index.Place.{Place}
use Rattle.up_image.specs.Texts.{text_part}

-- the leaves among nodes, the first of which has this place
abbrev pub leaf_places : ℕ → Bool → ℕ → List Node → List Place
leaf_places job start at [] = []
leaf_places job start at (node.Leaf leaf ∷ nodes) =
    record { event = leaf.event; job = job; start = start; node = at } ∷ leaf_places job start (at + 1) nodes
leaf_places job start at (node.And left right ∷ nodes) = leaf_places job start (at + 1) nodes
leaf_places job start at (node.Or left right ∷ nodes) = leaf_places job start (at + 1) nodes

-- those of an expression, if there is one
abbrev pub places_in : ℕ → Bool → Option Tree → List Place
places_in job start None = []
places_in job start (Some tree) = leaf_places job start 0 (nodes_of 0 tree)

-- all leaves of the jobs, the first of which has this place: job by job, first what stops it and then what starts it
abbrev pub places_of : ℕ → List JobDef → List Place
places_of at [] = []
places_of at (job ∷ jobs) = places_in at false job.stop_on ++ places_in at true job.start_on
    ++ places_of (at + 1) jobs

-- a place before runs: it joins the first one if the event is the same
abbrev pub onto_runs : Place → List (List Place) → List (List Place)
onto_runs place [] = (place ∷ []) ∷ []
onto_runs place ([] ∷ runs) = (place ∷ []) ∷ runs
onto_runs place ((next ∷ run) ∷ runs) =
    if bytes_eq next.event place.event then (place ∷ next ∷ run) ∷ runs else (place ∷ []) ∷ (next ∷ run)
    ∷ runs

-- the longest runs of one event
abbrev pub runs_of : List Place → List (List Place)
runs_of [] = []
runs_of (place ∷ places) = onto_runs place (runs_of places)

-- the entries of the index: the places of each event, in byte order of events; within one, by job, then what stops it before what
-- starts it, then by node
unfoldable pub entries_of : List JobDef → List (List Place)
entries_of jobs = runs_of (in_order (λ place. place.event) (places_of 0 jobs))

abbrev pub place_part : Place → List ℕ
place_part place = big_bytes 2 place.job ++ ((if place.start then 1 else 0) ∷ big_bytes 2 place.node)

abbrev pub event_of : List Place → List ℕ
event_of [] = []
event_of (place ∷ places) = place.event

-- an entry: its event, how many places there are, and the places
abbrev pub entry_part : List Place → List ℕ
entry_part places = text_part (event_of places) ++ big_bytes 4 (length places) ++ flat_map place_part places

abbrev pub index_part : List (List Place) → List ℕ
index_part entries = big_bytes 4 (length entries) ++ flat_map entry_part entries

-- whether places are an entry: at least one, and all of one event
abbrev pub is_entry : List Place → Bool
is_entry [] = false
is_entry (place ∷ places) = list_all (λ other. bytes_eq other.event place.event) places

-- the places of all entries
abbrev pub all_places : List (List Place) → List Place
all_places entries = flat_map (λ entry. entry) entries

-- the places of the leaves that name an event
abbrev pub named : List ℕ → List Place → List Place
named name places = filter (λ place. bytes_eq place.event name) places

-- no event of these is below this one
abbrev pub NoneBelow : List ℕ → List Place → Type 0
NoneBelow event [] = Unit {0}
NoneBelow event (place ∷ places) = (is_below place.event event ≡ false) × NoneBelow event places

-- no event is below one before it
abbrev pub IsAscending : List Place → Type 0
IsAscending [] = Unit {0}
IsAscending (place ∷ places) = NoneBelow place.event places × IsAscending places
