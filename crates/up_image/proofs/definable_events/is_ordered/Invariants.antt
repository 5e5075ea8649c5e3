use Rattle.std.proofs.Common.{◌≡◌, drop, not, cond}
use Rattle.std.specs.List.{list_any}
use Rattle.up_expr.specs.Values.{is_ordered, is_positional}
use Rattle.up_image.proofs.definable_events.is_ordered.Given as goal

-- what is left says the whole: once a value is keyed, no positional one may follow
abbrev pub invariant-loop-test : goal.invariant-loop-test
invariant-loop-test l = is_ordered l.tests ≡ cond l.setting_with (not (list_any is_positional (drop l.test-index l.tests))) (is_ordered (drop l.test-index l.tests))
