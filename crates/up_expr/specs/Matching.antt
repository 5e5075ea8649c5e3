-- Whether a leaf matches an event (init(5), "Event conditions"; fnmatch(3)).
use Rattle.std.specs.Prelude.{ℕ, ◌+◌, Bool, true, false, not, List, [], ◌∷◌, Option, None, Some, if◌then◌else◌, option_map}
use Rattle.std.specs.Prelude.{slice_get}
use Rattle.std.specs.Str.{bytes_eq}
use Rattle.up_value.specs.Values.{Bytes, Bindings}
use Rattle.up_text.specs.Bindings.{value_of}
use Rattle.up_text.specs.Expansion.{Expansion, Expands, Lacks, Malformed, expand}
use Rattle.up_text.specs.Pattern.{glob, supported}
use Rattle.up_expr.specs.Values.{is_positional}
use Rattle.up_expr.specs.declared.expr.Leaf.{Leaf}
use Rattle.up_expr.specs.declared.expr.Test.{Test}
use Rattle.up_expr.specs.declared.expr.Test.TheVariants.{Place, Same, Differs}

-- the pattern that an expanded value is; none if a key is unset, or the value is no good expansion or no supported pattern
abbrev pub pattern_of : Expansion → Option Bytes
pattern_of (Expands pattern) = if supported pattern then Some pattern else None
pattern_of (Lacks key) = None
pattern_of Malformed = None

-- whether a variable, if there is one, matches a pattern; without a pattern nothing does
abbrev pub meets : Option Bytes → Option Bytes → Bool
meets None found = false
meets (Some pattern) None = false
meets (Some pattern) (Some value) = glob pattern value

-- whether there is no variable, or its value doesn't match the pattern; without a pattern this fails too
abbrev pub misses : Option Bytes → Option Bytes → Bool
misses None found = false
misses (Some pattern) None = true
misses (Some pattern) (Some value) = not (glob pattern value)

-- the value of the variable at a place
abbrev pub nth_value : ℕ → Bindings → Option Bytes
nth_value k vars = option_map (λ pair. pair.1) (slice_get vars k)

-- whether the test at a place holds, by an event's variables and the environment that its value expands by
abbrev pub test_holds : Bindings → Bindings → ℕ → Test → Bool
test_holds vars env k (Place value) = meets (pattern_of (expand value env)) (nth_value k vars)
test_holds vars env k (Same key value) = meets (pattern_of (expand value env)) (value_of key vars)
test_holds vars env k (Differs key value) = misses (pattern_of (expand value env)) (value_of key vars)

-- the place of the next positional value after a test, where a positional one stands at place k
abbrev pub next_place : ℕ → Test → ℕ
next_place k test = if is_positional test then k + 1 else k

-- whether all of these tests hold, where the first positional one stands at place k: keyed ones aren't counted
abbrev pub tests_hold : Bindings → Bindings → ℕ → List Test → Bool
tests_hold vars env k [] = true
tests_hold vars env k (test ∷ tests) = if test_holds vars env k test
    then tests_hold vars env (next_place k test) tests else false

-- a leaf matches an event of its name if all its values do
abbrev pub matches : Leaf → Bytes → Bindings → Bindings → Bool
matches leaf name vars env = if bytes_eq name leaf.event then tests_hold vars env 0 leaf.values else false
