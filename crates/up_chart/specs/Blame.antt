-- How long each start of a run took.
use Rattle.std.specs.Prelude.{ℕ, ◌-◌, List, [], ◌∷◌, ◌++◌, length, replicate, codes}
use Rattle.std.specs.Fmt.{decimal}
use Rattle.std.specs.List.{flat_map}
use Rattle.std.specs.Ordering.{is_lt, nat_cmp}
use Rattle.up_conf.specs.Order.{sort_by_order}
use Rattle.up_value.specs.Values.{Bytes}
use Rattle.up_chart.specs.declared.label.Start.{Start}

-- the longest first; those that took as long keep their order
abbrev pub longest_first : List Start → List Start
longest_first starts = sort_by_order (λ start other. is_lt (nat_cmp other.took start.took)) starts

-- how many digits the first of these numbers has
abbrev pub number_width : List Start → ℕ
number_width [] = 0
number_width (start ∷ starts) = length (decimal start.took)

-- what stands before a number, so that those of all lines end in one column
abbrev pub padding : ℕ → Bytes → Bytes
padding width digits = replicate (width - length digits) 32

unfoldable pub start_line : ℕ → Start → Bytes
start_line width start = padding width (decimal start.took) ++ decimal start.took ++ codes " ms "
    ++ start.name ++ codes "\n"

-- a line for each start
unfoldable pub blame_of : List Start → Bytes
blame_of starts = flat_map (start_line (number_width (longest_first starts))) (longest_first starts)
