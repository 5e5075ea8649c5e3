-- The parts of a picture.
use Rattle.std.specs.Prelude.{ℕ, ◌-◌, nat_le, ◌||◌, List, [], ◌∷◌, ◌++◌, Option, None, Some, if◌then◌else◌}
use Rattle.std.specs.List.{flat_map}
use Rattle.up_value.specs.Values.{Bytes}
use Rattle.up_model.specs.declared.state.State.{State}
use Rattle.up_model.specs.declared.state.State.TheVariants as state
use Rattle.up_chart.specs.declared.chart.Chart.{Chart}
use Rattle.up_chart.specs.declared.label.Label.{Label}
use Rattle.up_chart.specs.declared.label.Mark.{Mark}
use Rattle.up_chart.specs.declared.label.Span.{Span}
use Rattle.up_chart.specs.declared.label.Start.{Start}
use Rattle.up_chart.specs.declared.moment.Moment.{Moment}
use Rattle.up_chart.specs.declared.moment.Sign.{Sign}
use Rattle.up_chart.specs.declared.moment.Sign.TheVariants.{Enters, StartedBy, ByClient, Fails, Signal, Comes}
use Rattle.up_chart.specs.declared.row.Row.{Row}
use Rattle.up_chart.specs.Arrows.{arrows_in}
use Rattle.up_model.specs.Predicates.{is_waiting}
use Rattle.up_chart.specs.Rows.{Named, all_rows, is_up, row_for, rows_after}

-- the state in which an instance was until then, if it was in one for a while
abbrev pub span_of : (end : ℕ) → Row → List Span
span_of end row = if is_waiting row.state || nat_le end row.since then []
    else (record { place = row.place; state = row.state; begin = row.since; end = end }) ∷ []

-- a state ends when the next is entered
abbrev pub spans_by : ℕ → Row → Sign → List Span
spans_by time row (Enters to) = span_of time row
spans_by time row (StartedBy events source) = []
spans_by time row ByClient = []
spans_by time row Fails = []
spans_by time row (Signal signal) = []
spans_by time row Comes = []

abbrev pub mark : Row → ℕ → Sign → List Mark
mark row time sign = (record { place = row.place; time = time; sign = sign }) ∷ []

-- which events started it, unless that was told; the failure of main while nobody had asked for its end; each signal
abbrev pub marks_by : ℕ → Row → Sign → List Mark
marks_by time row (Enters to) = []
marks_by time row (StartedBy events source) = if row.told then [] else mark row time (StartedBy events source)
marks_by time row ByClient = []
marks_by time row Fails = if is_up row.state then mark row time Fails else []
marks_by time row (Signal signal) = mark row time (Signal signal)
marks_by time row Comes = []

-- a start that began then
abbrev pub started : (time : ℕ) → Bytes → Option ℕ → List Start
started time name None = []
started time name (Some began) = (record { name = name; began = began; took = time - began }) ∷ []

-- a start ends when the instance runs
abbrev pub ended : ℕ → Bytes → Option ℕ → State → List Start
ended time name began state.Running = started time name began
ended time name began other = []

abbrev pub starts_for : Row → ℕ → Bytes → Sign → List Start
starts_for row time name (Enters to) = ended time name row.start_began to
starts_for row time name (StartedBy events source) = []
starts_for row time name ByClient = []
starts_for row time name Fails = []
starts_for row time name (Signal signal) = []
starts_for row time name Comes = []

abbrev pub starts_by : Row → Moment → List Start
starts_by row seen = starts_for row seen.time seen.name seen.sign

-- the states that end, the marks and the starts that end in moments, if these instances are known before them
abbrev pub spans_in : Named → List Moment → List Span
spans_in rows [] = []
spans_in rows (seen ∷ moments) =
    spans_by seen.time (row_for rows seen) seen.sign ++ spans_in (rows_after rows seen) moments

abbrev pub marks_in : Named → List Moment → List Mark
marks_in rows [] = []
marks_in rows (seen ∷ moments) =
    marks_by seen.time (row_for rows seen) seen.sign ++ marks_in (rows_after rows seen) moments

abbrev pub starts_in : Named → List Moment → List Start
starts_in rows [] = []
starts_in rows (seen ∷ moments) = starts_by (row_for rows seen) seen ++ starts_in (rows_after rows seen) moments

-- the name of a row
abbrev pub label_of : Bytes × Row → List Label
label_of row = (record { place = row.1.place; name = row.0 }) ∷ []

-- the state that lasts until the end of the run
abbrev pub last_span : (end : ℕ) → Bytes × Row → List Span
last_span end row = span_of end row.1

-- the picture of a run that ends then
unfoldable pub chart_of : (end : ℕ) → List Moment → Chart
chart_of end moments =
    let rows = all_rows [] moments in
    record {
      end = end;
      labels = flat_map label_of rows;
      spans = spans_in [] moments ++ flat_map (last_span end) rows;
      arrows = arrows_in [] [] moments;
      marks = marks_in [] moments;
      starts = starts_in [] moments;
    }
