-- The arrows of a picture: from where an event came that started an instance, to where the instance's life begins.
use Rattle.std.specs.Prelude.{ℕ, Bool, true, false, ◌&&◌, ◌||◌, nat_le, ◌==◌, List, [], ◌∷◌, ◌++◌, length, Option, None, Some, is_some, option_map, if◌then◌else◌}
use Rattle.std.specs.List.{flat_map, slice_split}
use Rattle.up_value.specs.Values.{Bytes}
use Rattle.up_chart.specs.declared.label.Arrow.{Arrow}
use Rattle.up_chart.specs.declared.moment.Moment.{Moment}
use Rattle.up_chart.specs.declared.moment.Sign.{Sign}
use Rattle.up_chart.specs.declared.moment.Sign.TheVariants.{Enters, StartedBy, ByClient, Fails, Signal, Comes}
use Rattle.up_chart.specs.declared.row.Came.{Came}
use Rattle.up_chart.specs.declared.row.Row.{Row}
use Rattle.up_chart.specs.Moments.{life_event, state_told}
use Rattle.up_chart.specs.Rows.{Named, Times, entry_of, row_for, rows_after, times_after}

-- whether no other event of the name came since the last life that events started
abbrev pub is_only : (events_came before : Option ℕ) → Bool
is_only events_came None = true
is_only None (Some before) = false
is_only (Some events_came) (Some before) = nat_le before events_came

-- An event is known to have started a life that began then, if it is the only one of its name since the last such life, or if it
-- came as the life began, and the start had no other event. Else an earlier one may have, as a condition keeps the first event that it
-- takes (init(5), "start on").
abbrev pub is_known : (alone : Bool) → Row → (life_began : ℕ) → Came → Bool
is_known alone row life_began came =
    nat_le came.last life_began && (is_only row.events_came came.before || (alone && came.last == life_began))

-- an arrow from a row, or from outside, to the life of an instance that began then
abbrev pub arrow : (from : Option ℕ) → (alone : Bool) → Row → (life_began : ℕ) → Option Came → List Arrow
arrow from alone row life_began None = []
arrow from alone row life_began (Some came) =
    if is_known alone row life_began came
    then (record { from = from; came = came.last; place = row.place; life_began = life_began }) ∷ [] else []

abbrev pub place_of : Named → (who : Bytes) → Option ℕ
place_of rows who = option_map (λ row. row.place) (entry_of who rows)

-- the names of events, which a space separates
abbrev pub words_of : Bytes → List Bytes
words_of events = slice_split (λ byte. byte == 32) events

-- whether an event is of an instance's life
abbrev pub is_life : (event : Bytes) → Bool
is_life event = is_some (state_told event)

-- the last of these events that is of an instance's life
abbrev pub last_life : (last : Option Bytes) → (events : List Bytes) → Option Bytes
last_life last [] = last
last_life last (event ∷ events) = last_life (if is_life event then Some event else last) events

-- an event of an instance's life comes from the instance's row
abbrev pub from_life : Named → Times → (alone : Bool) → Row → (life_began : ℕ) → (event source : Option Bytes) → List Arrow
from_life rows times alone row life_began None source = []
from_life rows times alone row life_began (Some event) None = []
from_life rows times alone row life_began (Some event) (Some who) =
    arrow (place_of rows who) alone row life_began (entry_of (life_event event who) times)

-- any other comes from outside
abbrev pub from_outside : Times → (alone : Bool) → Row → (life_began : ℕ) → (event : Bytes) → List Arrow
from_outside times alone row life_began event =
    if is_life event then [] else arrow None alone row life_began (entry_of event times)

abbrev pub is_one : List Bytes → Bool
is_one events = length events == 1

-- the arrows to a life that these events started. Of those that are of instances' lives it is known of the last alone which instance
-- it is about, since each sets JOB and INSTANCE
abbrev pub arrows_to : Named → Times → Row → (life_began : Option ℕ) → (events : List Bytes) → (source : Option Bytes) → List Arrow
arrows_to rows times row None events source = []
arrows_to rows times row (Some life_began) events source =
    from_life rows times (is_one events) row life_began (last_life None events) source
    ++ flat_map (from_outside times (is_one events) row life_began) events

-- a client starts a life at once, from outside
abbrev pub from_client : (place : ℕ) → (life_began : Option ℕ) → List Arrow
from_client place None = []
from_client place (Some life_began) = (record { from = None; came = life_began; place = place; life_began = life_began }) ∷ []

-- the arrows to a life are told once, as its events are
abbrev pub arrows_by : Named → Times → Row → Sign → List Arrow
arrows_by rows times row (Enters to) = []
arrows_by rows times row (StartedBy events source) =
    if row.told then [] else arrows_to rows times row row.life_began (words_of events) source
arrows_by rows times row ByClient = if row.asked then [] else from_client row.place row.life_began
arrows_by rows times row Fails = []
arrows_by rows times row (Signal signal) = []
arrows_by rows times row Comes = []

-- the arrows in moments, if these instances are known before them, and these events came
abbrev pub arrows_in : Named → Times → List Moment → List Arrow
arrows_in rows times [] = []
arrows_in rows times (seen ∷ moments) =
    arrows_by rows times (row_for rows seen) seen.sign ++ arrows_in (rows_after rows seen) (times_after times seen) moments
