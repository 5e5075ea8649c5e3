-- A state that lasted a while.
use Rattle.std.proofs.Common.{◌≡◌, ℕ, ◌<◌, ◌≤◌, Bool, true, false, cond, ◌||◌, nat_le, List, [], ◌∷◌, refl, sym, ap, ◌∙◌, arith, leb-true}
use Rattle.up_model.specs.Predicates.{is_waiting}
use Rattle.up_chart.specs.declared.label.Span.{Span}
use Rattle.up_chart.specs.declared.row.Row.{Row}
use Rattle.up_chart.specs.Charts.{span_of}

abbrev shown : ℕ → Row → List Span
shown end row = (record { place = row.place; state = row.state; begin = row.since; end = end }) ∷ []

not_le : (a b : ℕ) → b < a → nat_le a b ≡ false
not_le a b less = by_case (nat_le a b) refl
  where
    by_case : (known : Bool) → nat_le a b ≡ known → known ≡ false
    by_case true is = let le : a ≤ b = leb-true a b is in absurd (omega (arith, le, less))
    by_case false is = refl

pub span_shown : (end : ℕ) (row : Row) → is_waiting row.state ≡ false → row.since < end → shown end row ≡ span_of end row
span_shown end row runs later =
    sym (ap (λ waits. cond (waits || nat_le end row.since) [] (shown end row)) runs ∙ ap (λ none. cond none [] (shown end row)) (not_le end row.since later))
