use Rattle.std.proofs.Common.{◌≡◌, ℕ, List, false, map, take}
use Rattle.std.specs.List.{list_any}
use Rattle.std.specs.Str.{bytes_eq}
use Rattle.std.specs.BTreeSet.{contains_by}
use Rattle.std.specs.Ordering.{nat_cmp}
use Rattle.std.specs.Cmp.Lexicographic.{slice_cmp}
use Rattle.up_image.specs.Compiling.{has_twice}
use Rattle.up_image.proofs.twice.has_equal.Given as goal

-- the set has the texts so far, of which none stands twice
abbrev pub invariant-loop-text : goal.invariant-loop-text
invariant-loop-text l = record {
  seen : (q : List ℕ) → contains_by (λ k. slice_cmp nat_cmp q k.now) l.seen ≡ list_any (bytes_eq q) (map (λ text. text.now) (take l.text-index l.texts));
  apart : has_twice (map (λ text. text.now) (take l.text-index l.texts)) ≡ false;
}
