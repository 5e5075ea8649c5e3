-- A picture as a text in SVG.
use Rattle.std.specs.Prelude.{ℕ, ◌+◌, ◌-◌, ◌*◌, ◌/◌, max, min, nat_le, nat_lt, ◌==◌, List, [], ◌∷◌, ◌++◌, Option, None, Some, length, if◌then◌else◌, codes}
use Rattle.std.specs.Fmt.{decimal}
use Rattle.std.specs.List.{flat_map}
use Rattle.up_value.specs.Values.{Bytes}
use Rattle.up_model.specs.Signals.{signal_text}
use Rattle.up_model.specs.Status.{state_name}
use Rattle.up_chart.specs.declared.chart.Chart.{Chart}
use Rattle.up_chart.specs.declared.label.Arrow.{Arrow}
use Rattle.up_chart.specs.declared.label.Label.{Label}
use Rattle.up_chart.specs.declared.label.Mark.{Mark}
use Rattle.up_chart.specs.declared.label.Span.{Span}
use Rattle.up_chart.specs.declared.moment.Sign.{Sign}
use Rattle.up_chart.specs.declared.moment.Sign.TheVariants.{Enters, StartedBy, ByClient, Fails, Signal, Comes}
use Rattle.up_chart.specs.declared.scale.TheConstants.{FAR, HEIGHT, WIDTH}
use Rattle.up_chart.specs.declared.svg.TheConstants.{BAR_BEGINS, BAR_ENDS, BEGINNING, LETTERS, LOOKS, STEPS, TICKS}

-- a byte of a text between two tags; one that XML can't have is a question mark
unfoldable pub escaped : ℕ → Bytes
escaped byte =
    if byte == 38 then codes "&amp;"
    else (if byte == 60 then codes "&lt;"
    else (if byte == 62 then codes "&gt;"
    else (if nat_le byte 31 then codes "?"
    else byte ∷ [])))

-- an attribute that is a number
unfoldable pub attribute : Bytes → ℕ → Bytes
attribute name value = codes " " ++ name ++ codes "=\"" ++ decimal value ++ codes "\""

-- the end of a run as it is drawn
abbrev pub shown_end : ℕ → ℕ
shown_end end = max (min end FAR) 1

-- where a time stands in a run that ends then: what is later stands at the end
abbrev pub x_at : (end time : ℕ) → ℕ
x_at end time = min time (shown_end end) * WIDTH / shown_end end

-- where a row begins
abbrev pub y_at : ℕ → ℕ
y_at place = min place FAR * HEIGHT

-- the first of these steps of which a run has no more than ten
abbrev pub tick_step : (end : ℕ) → List ℕ → ℕ
tick_step end [] = FAR
tick_step end (step ∷ steps) = if nat_lt (end / 10) step then step else tick_step end steps

-- the length of the longest name
abbrev pub longest : List Label → ℕ
longest [] = 0
longest (label ∷ labels) = max (length label.name) (longest labels)

-- how wide the names are drawn: by their bytes, and for 80 at most
abbrev pub column : List Label → ℕ
column labels = min (longest labels) 80 * 7 + 24

-- how large the picture is
unfoldable pub opening : (width height : ℕ) → Bytes
opening width height = BEGINNING.now ++ attribute (codes "width") width
    ++ attribute (codes "height") height ++ LETTERS.now

-- what its colours say, and how far to the right its rows begin
unfoldable pub legend : (left : ℕ) → Bytes
legend left = LOOKS.now ++ codes "<g transform=\"translate(" ++ decimal left ++ codes ",44)\">\n"

-- what comes before the rows
unfoldable pub head : List Label → Bytes
head labels = opening (column labels + WIDTH + 160) (y_at (length labels) + 80) ++ legend (column labels)

-- where a thing stands
unfoldable pub corner : (x y : ℕ) → Bytes
corner x y = attribute (codes "x") x ++ attribute (codes "y") y

-- a tick and its time
unfoldable pub tick_line : (x below : ℕ) → Bytes
tick_line x below = codes "<path class=\"tick\" d=\"M" ++ decimal x ++ codes " 0V" ++ decimal below
    ++ codes "\"/>"

unfoldable pub tick_time : (x y time : ℕ) → Bytes
tick_time x y time = codes "<text class=\"time\"" ++ corner x y ++ codes ">" ++ decimal time
    ++ codes " ms</text>\n"

unfoldable pub tick_text : (end bottom time : ℕ) → Bytes
tick_text end bottom time =
    tick_line (x_at end time) (bottom + 4) ++ tick_time (x_at end time) (bottom + 18) time

-- if the run lasts until then
abbrev pub tick_at : (end bottom step tick : ℕ) → Bytes
tick_at end bottom step tick = if nat_le (tick * step) end then tick_text end bottom (tick * step) else []

-- the times at the bottom of so many rows
unfoldable pub axis : (end rows : ℕ) → Bytes
axis end rows =
    flat_map (tick_at (shown_end end) (y_at rows) (tick_step (shown_end end) STEPS)) TICKS

-- the line above a row, and its name
unfoldable pub row_line : (y : ℕ) → Bytes
row_line y = codes "<path class=\"line\" d=\"M0 " ++ decimal y ++ codes "h1000\"/>"

unfoldable pub name_text : (y : ℕ) → Bytes → Bytes
name_text y name = codes "<text class=\"name\" x=\"-8\"" ++ attribute (codes "y") y ++ codes ">"
    ++ flat_map escaped name ++ codes "</text>\n"

unfoldable pub label_text : Label → Bytes
label_text label = row_line (y_at label.place) ++ name_text (y_at label.place + 14) label.name

-- from when to when
unfoldable pub interval : (begin end : ℕ) → Bytes
interval begin end = decimal begin ++ codes " to " ++ decimal end ++ BAR_ENDS.now

-- a bar, and what it says to who points at it
unfoldable pub bar : Bytes → (x y width : ℕ) → Bytes
bar class x y width = codes "<rect class=\"" ++ class ++ codes "\"" ++ corner x y
    ++ attribute (codes "width") width

unfoldable pub bar_title : Bytes → (begin end : ℕ) → Bytes
bar_title class begin end =
    BAR_BEGINS.now ++ class ++ codes ", " ++ interval begin end

-- a state of an instance: a bar, a pixel wide at least
unfoldable pub span_text : (end : ℕ) → Span → Bytes
span_text end span =
    bar (state_name span.state) (x_at end span.begin) (y_at span.place + 3)
    (max (x_at end span.end - x_at end span.begin) 1)
    ++ bar_title (state_name span.state) span.begin span.end

-- an arrow begins in the middle of a row, and one from outside above the first
abbrev pub tail_text : (from : Option ℕ) → Bytes
tail_text None = codes "-8"
tail_text (Some from) = decimal (y_at from + 10)

-- it ends at the upper edge of a bar, or at the lower if it comes from a row below
abbrev pub tip_y : (from : Option ℕ) → (place : ℕ) → ℕ
tip_y None place = y_at place + 3
tip_y (Some from) place = if nat_lt place from then y_at place + 17 else y_at place + 3

-- it goes straight to a life that begins where the event came; to one that begins later it goes on along its row
unfoldable pub way_text : (from : Option ℕ) → (place x to_x : ℕ) → Bytes
way_text from place x to_x =
    if nat_lt x to_x then codes "V" ++ decimal (y_at place + 10) ++ codes "H" ++ decimal to_x
    else codes "V" ++ decimal (tip_y from place)

unfoldable pub arrow_path : (from : Option ℕ) → (place x to_x : ℕ) → Bytes
arrow_path from place x to_x =
    codes "<path class=\"arrow\" d=\"M" ++ decimal x ++ codes " " ++ tail_text from ++ way_text from place x to_x
    ++ codes "\"/>\n"

-- from where and when the event came, to where and when the life begins
abbrev pub arrow_text : (end : ℕ) → Arrow → Bytes
arrow_text end arrow = arrow_path arrow.from arrow.place (x_at end arrow.came) (x_at end arrow.life_began)

-- the events that started an instance
unfoldable pub started_text : (x y : ℕ) → Bytes → Bytes
started_text x y events = codes "<text class=\"by\" dx=\"3\"" ++ attribute (codes "x") x
    ++ attribute (codes "y") (y + 13) ++ codes ">" ++ flat_map escaped events ++ codes "</text>\n"

-- a place from which a path is drawn
abbrev pub place_text : (x y : ℕ) → Bytes
place_text x y = codes " d=\"M" ++ decimal x ++ codes " " ++ decimal y

-- the failure of a main process
unfoldable pub crash_text : (x y : ℕ) → Bytes
crash_text x y = codes "<path class=\"crash\"" ++ place_text x (y + 4)
    ++ codes "l5 11h-10z\"><title>main failed</title></path>\n"

-- a signal
unfoldable pub signal_mark : (x y signal : ℕ) → Bytes
signal_mark x y signal = codes "<path class=\"signal\"" ++ place_text x (y + 2) ++ codes "v16\"><title>"
    ++ signal_text signal ++ codes "</title></path>\n"

abbrev pub sign_text : (x y : ℕ) → Sign → Bytes
sign_text x y (Enters to) = []
sign_text x y (StartedBy events source) = started_text x y events
sign_text x y ByClient = []
sign_text x y Fails = crash_text x y
sign_text x y (Signal signal) = signal_mark x y signal
sign_text x y Comes = []

abbrev pub mark_text : (end : ℕ) → Mark → Bytes
mark_text end mark = sign_text (x_at end mark.time) (y_at mark.place) mark.sign

-- a picture
unfoldable pub svg_of : Chart → Bytes
svg_of chart = head chart.labels ++ axis chart.end (length chart.labels)
    ++ flat_map label_text chart.labels ++ flat_map (span_text chart.end) chart.spans
    ++ flat_map (arrow_text chart.end) chart.arrows ++ flat_map (mark_text chart.end) chart.marks ++ codes "</g>\n</svg>\n"
