use Rattle.std.proofs.Common.{◌≡◌, ℕ, take, drop}
use Rattle.std.specs.Io.KnownBytes.{Appends}
use Rattle.up_print.specs.Noting.{inner_of}
use Rattle.up_print.proofs.writes.write_bytes.Given as goal

-- the first bytes were written, and the others are left
abbrev pub invariant-loop : goal.invariant-loop
invariant-loop g l = (count : ℕ) × (l.rest ≡ drop count l.bytes)
    × Appends (g.W.Write.contents (inner_of l.initial.writer)) (g.W.Write.contents (inner_of l.writer)) (take count l.bytes)
