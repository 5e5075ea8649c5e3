use Rattle.std.proofs.Common.{◌≡◌, ◌++◌}
use Rattle.std.specs.Vec.Iter.{into_iter_items}
use Rattle.up_image.proofs.table.Table.into_files.Given as goal

-- the files so far are of the jobs so far
abbrev pub invariant-loop-job : goal.invariant-loop-job
invariant-loop-job l = record {
  same : l.files.items ≡ l.yielded;
  rest : l.fn.self ≡ l.yielded ++ into_iter_items l.job-iterator;
}
