use Rattle.std.proofs.Common.{◌≡◌, ◌++◌, drop}
use Rattle.up_chart.specs.Arrows.{arrows_in}
use Rattle.up_chart.specs.Charts.{marks_in, spans_in, starts_in}
use Rattle.up_chart.specs.Rows.{all_rows}
use Rattle.up_chart.proofs.seen.Seen.see_all.Given as goal

-- the other moments make of what was seen so far what all make of the beginning
abbrev pub invariant-loop-moment : goal.invariant-loop-moment
invariant-loop-moment l = record {
  rows : all_rows l.self.rows (drop l.moment-index l.moments) ≡ all_rows l.initial.self.rows l.moments;
  spans : l.self.spans.items ++ spans_in l.self.rows (drop l.moment-index l.moments) ≡ l.initial.self.spans.items ++ spans_in l.initial.self.rows l.moments;
  arrows : l.self.arrows.items ++ arrows_in l.self.rows l.self.times (drop l.moment-index l.moments) ≡ l.initial.self.arrows.items ++ arrows_in l.initial.self.rows l.initial.self.times l.moments;
  marks : l.self.marks.items ++ marks_in l.self.rows (drop l.moment-index l.moments) ≡ l.initial.self.marks.items ++ marks_in l.initial.self.rows l.moments;
  starts : l.self.starts.items ++ starts_in l.self.rows (drop l.moment-index l.moments) ≡ l.initial.self.starts.items ++ starts_in l.initial.self.rows l.moments;
}
