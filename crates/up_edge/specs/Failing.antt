-- Which calls of a script fail.
use Rattle.std.specs.Prelude.{ℕ, ◌+◌, ◌==◌, min, nat_le, Bool, List}
use Rattle.std.specs.List.{list_any}
use Rattle.up_edge.specs.declared.failure.Failure.{Failure}
use Rattle.up_edge.specs.declared.failure.Failure.TheVariants.{Once, From}

-- the failure is of the call with this number
abbrev pub is_failing : Failure → ℕ → Bool
is_failing (Once failing) call = failing == call
is_failing (From first) call = nat_le first call

-- the call with this number fails
abbrev pub fails : List Failure → ℕ → Bool
fails failures call = list_any (λ failure. is_failing failure call) failures

-- the number of the call after this one; at the greatest it stays
abbrev pub call_after : ℕ → ℕ
call_after call = min (call + 1) 18446744073709551615
