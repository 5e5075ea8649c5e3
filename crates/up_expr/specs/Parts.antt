-- What the parts of a value's text say, what is kept of a tree, and the fault of what is refused.
use Rattle.std.specs.Prelude.{◌≡◌, Bool, true, false, Option, None, Some}
use Rattle.up_expr.specs.declared.expr.Test.{Test}
use Rattle.up_expr.specs.declared.expr.Test.TheVariants as test
use Rattle.up_expr.specs.declared.fault.ExprFault.{ExprFault}
use Rattle.up_expr.specs.declared.fault.ExprFault.TheVariants.{Memory}
use Rattle.up_expr.specs.Trees.{Tree}
use Rattle.up_expr.specs.declared.value.Parts.{Parts}
use Rattle.up_expr.specs.declared.value.Parts.TheVariants.{Place, Same, Differs}

-- what the parts of a value's text say
abbrev pub test_in : Parts → Test
test_in (Place value) = test.Place value.now
test_in (Same key value) = test.Same key.now value.now
test_in (Differs key value) = test.Differs key.now value.now

-- out of memory only if the input is good, and another fault only if it isn't
abbrev pub IsFaultOf : Bool → ExprFault → Type 0
IsFaultOf true fault = fault ≡ Memory
IsFaultOf false fault = fault ≡ Memory → ⊥

-- a tree that is kept, unless memory was refused
abbrev pub Keeps : Option Tree → Tree → Type 0
Keeps None tree = Unit {0}
Keeps (Some kept) tree = kept ≡ tree
