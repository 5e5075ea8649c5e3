use Rattle.std.proofs.Common.{◌≡◌, ◌≤◌, take}
use Rattle.std.specs.List.{count_by}
use Rattle.up_run.specs.Faults.{is_refusal}
use Rattle.up_run.proofs.faults.refusals.Given as goal

-- so many are among those before this one
abbrev pub invariant-loop-input : goal.invariant-loop-input
invariant-loop-input l = record {
  counted : l.count ≡ count_by is_refusal (take l.input-index l.fed);
  few : l.count ≤ l.input-index;
}
