-- Variables that are read one after another.
use Rattle.std.proofs.Common.{◌≡◌, ◌+◌, ◌-◌, ◌<◌, ℕ, suc, option_and_then, ap, arith}
use Rattle.up_model.specs.Values.{Bytes, Bindings}
use Rattle.up_wire.specs.Fields.{variable_at, variables_at}

-- the first of those that are left, and the others
pub variables_left : (count i : ℕ) (vars : Bindings) (rest : Bytes) → i < count → variables_at (count - i) vars rest ≡ option_and_then (λ more. variables_at (count - (i + 1)) more.0 more.1) (variable_at vars rest)
variables_left count i vars rest within =
    let one : count - i ≡ suc (count - (i + 1)) = omega arith in
    ap (λ n. variables_at n vars rest) one
