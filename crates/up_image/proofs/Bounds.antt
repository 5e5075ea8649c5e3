-- How large what a proof speaks of is, where the specs of this crate have no name for it.
use Rattle.std.proofs.Common.{ℕ}

-- the most bytes of a text that is read as a file: 1 MiB
abbrev pub max_text : ℕ
max_text = 1048576
