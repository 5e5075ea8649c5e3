use Rattle.std.proofs.Common.{◌≡◌, ◌++◌, take, map}
use Rattle.std.specs.List.{flat_map}
use Rattle.up_image.specs.Index.{entry_part}
use Rattle.up_image.proofs.index.put_each_entry.Given as goal

-- what was there, and after it the entries so far
abbrev pub invariant-loop-run : goal.invariant-loop-run
invariant-loop-run l = l.out.items ≡ l.fn.out.items ++ flat_map entry_part (map (λ run. run.now) (take l.run-index l.runs))
