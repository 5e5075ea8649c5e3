use Rattle.std.proofs.Common.{◌≡◌, ◌++◌, take}
use Rattle.std.specs.List.{flat_map}
use Rattle.up_chart.specs.Svg.{span_text}
use Rattle.up_chart.proofs.svg.push_spans.Given as goal

abbrev pub invariant-loop-span : goal.invariant-loop-span
invariant-loop-span l = l.text.items ≡ l.initial.text.items ++ flat_map (span_text l.end) (take l.span-index l.spans)
