-- Which expressions name an event, and where in them.
use Rattle.std.specs.Prelude.{ℕ, ◌+◌, ◌*◌, ◌≤◌, ◌==◌, nat_lt, not, Bool, true, false, ◌||◌, List, [], ◌∷◌, Option, None, Some, filter}
use Rattle.std.specs.Str.{bytes_eq}
use Rattle.up_value.specs.Values.{Bytes}
use Rattle.up_conf.specs.declared.job.JobDef.{JobDef}
use Rattle.up_expr.specs.Trees.{Tree, One, Both, Either}
use Rattle.up_image.specs.declared.index.Place.{Place}
use Rattle.up_marks.specs.Agreeing.{naming}
use Rattle.up_image.specs.Index.{IsAscending, named}

-- whether a leaf of a tree names an event
abbrev pub names : Tree → Bytes → Bool
names (One leaf) name = bytes_eq name leaf.event
names (Both left right) name = names left name || names right name
names (Either left right) name = names left name || names right name

-- the same of an expression that a job file may not have
abbrev pub names_in : Option Tree → Bytes → Bool
names_in None name = false
names_in (Some tree) name = names tree name

-- the places of its leaves that name an event, from left to right
abbrev pub naming_in : Option Tree → Bytes → List ℕ
naming_in None name = []
naming_in (Some tree) name = naming 0 tree name

-- a job's expression: what stops it, or what starts it
abbrev pub side_of : Bool → JobDef → Option Tree
side_of true job = job.start_on
side_of false job = job.stop_on

-- a number for each expression, which rises in the order in which events are offered
abbrev pub bit_of : Bool → ℕ
bit_of true = 1
bit_of false = 0

abbrev pub rank : (job : ℕ) → (start : Bool) → ℕ
rank job start = job * 2 + bit_of start

abbrev pub rank_of : Place → ℕ
rank_of place = rank place.job place.start

-- among places, those of one expression
abbrev pub of_expression : (job : ℕ) → (start : Bool) → List Place → List Place
of_expression job start places = filter (λ place. rank_of place == rank job start) places

-- and those of this expression and later ones
abbrev pub from_expression : (job : ℕ) → (start : Bool) → List Place → List Place
from_expression job start places = filter (λ place. not (nat_lt (rank_of place) (rank job start))) places

-- no expression comes before an earlier one, or before this number
abbrev pub Rising : ℕ → List Place → Type 0
Rising low [] = Unit {0}
Rising low (place ∷ places) = (low ≤ rank_of place) × Rising (rank_of place) places

-- the places of an index: in byte order of events, and those of one event in the order of expressions
pub record IsIndexed (places : List Place) : Type 0 where
  pub ascending : IsAscending places
  pub rising : (name : Bytes) → Rising 0 (named name places)
