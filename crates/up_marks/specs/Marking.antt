-- What the nodes of an expression remember, by what its leaves keep.
use Rattle.std.specs.Prelude.{◌≡◌, ◌<◌, ℕ, ◌+◌, ◌==◌, nat_lt, Bool, false, ◌&&◌, ◌||◌, List, [], ◌∷◌, ◌++◌, Option, None, Some, if◌then◌else◌, is_some}
use Rattle.std.specs.Option.{option_to_list}
use Rattle.up_value.specs.Values.{Bytes, Bindings}
use Rattle.up_expr.specs.Flat.{size}
use Rattle.up_expr.specs.Matching.{matches}
use Rattle.up_expr.specs.Trees.{Tree, One, Both, Either}
use Rattle.up_model.specs.declared.event_id.EventId.{EventId}
use Rattle.up_marks.specs.declared.mark.Mark.{Mark}

-- what each leaf keeps, by its place among the nodes
abbrev pub Kept : Type 0
Kept = ℕ → Option EventId

-- whether a tree is true by what its leaves keep, where its first node has this place
abbrev pub truth : ℕ → Tree → Kept → Bool
truth start (One leaf) kept = is_some (kept start)
truth start (Both left right) kept = truth start left kept && truth (start + size left) right kept
truth start (Either left right) kept = truth start left kept || truth (start + size left) right kept

-- the mark of an operator
abbrev pub operator : Bool → Mark
operator holds = record { holds = holds; kept = None }

-- the mark of a node that isn't true
abbrev pub unset : Mark
unset = operator false

-- the marks of its nodes, in post-order
abbrev pub marks_of : ℕ → Tree → Kept → List Mark
marks_of start (One leaf) kept = record { holds = is_some (kept start); kept = kept start } ∷ []
marks_of start (Both left right) kept =
    marks_of start left kept ++ marks_of (start + size left) right kept
    ++ operator (truth start left kept && truth (start + size left) right kept) ∷ []
marks_of start (Either left right) kept =
    marks_of start left kept ++ marks_of (start + size left) right kept
    ++ operator (truth start left kept || truth (start + size left) right kept) ∷ []

-- the same, and at one place this event
abbrev pub with_kept : ℕ → EventId → Kept → Kept
with_kept node event kept place = if place == node then Some event else kept place

-- the same at several places, one after another
abbrev pub all_kept : List ℕ → EventId → Kept → Kept
all_kept [] event kept = kept
all_kept (node ∷ nodes) event kept = all_kept nodes event (with_kept node event kept)

-- the events by which it is true
abbrev pub taken_of : ℕ → Tree → Kept → List EventId
taken_of start (One leaf) kept = option_to_list (kept start)
taken_of start (Both left right) kept =
    if truth start left kept && truth (start + size left) right kept
    then taken_of start left kept ++ taken_of (start + size left) right kept else []
taken_of start (Either left right) kept = taken_of start left kept ++ taken_of (start + size left) right kept

-- the events that it keeps, from left to right
abbrev pub kept_of : ℕ → Tree → Kept → List EventId
kept_of start (One leaf) kept = option_to_list (kept start)
kept_of start (Both left right) kept = kept_of start left kept ++ kept_of (start + size left) right kept
kept_of start (Either left right) kept = kept_of start left kept ++ kept_of (start + size left) right kept

-- whether the leaf at a place keeps nothing yet and matches an event
abbrev pub newly_matches : ℕ → Tree → Kept → Bytes → Bindings → Bindings → ℕ → Bool
newly_matches start (One leaf) kept name vars env node =
    if node == start then (if is_some (kept start) then false else matches leaf name vars env) else false
newly_matches start (Both left right) kept name vars env node =
    if nat_lt node (start + size left) then newly_matches start left kept name vars env node
    else newly_matches (start + size left) right kept name vars env node
newly_matches start (Either left right) kept name vars env node =
    if nat_lt node (start + size left) then newly_matches start left kept name vars env node
    else newly_matches (start + size left) right kept name vars env node

-- the events that marks keep, from left to right
abbrev pub kept_in : List Mark → List EventId
kept_in [] = []
kept_in (mark ∷ marks) = option_to_list mark.kept ++ kept_in marks

-- how often an event stands among these
abbrev pub occurs : EventId → List EventId → ℕ
occurs event [] = 0
occurs event (other ∷ events) = if other.key == event.key then occurs event events + 1 else occurs event events

-- how often marks keep an event
abbrev pub uses : EventId → List Mark → ℕ
uses event marks = occurs event (kept_in marks)

-- of the ids that marks keep, those that stand for an event have this key
abbrev pub IsOnlyId : (EventId → Option ℕ) → List Mark → EventId → (event : ℕ) → Type 0
IsOnlyId event_of marks id event =
    (other : EventId) → 0 < uses other marks → event_of other ≡ Some event → other.key ≡ id.key
