use Rattle.std.proofs.Common.{◌-◌, ◌≤◌, length, drop, sym, ◌∙◌, length-drop, arith}
use Rattle.up_image.proofs.Ascending.{are_ascending_one}
use Rattle.up_image.proofs.definable.are_ascending.Goals as goal

pub returns : goal.returns
returns c =
    let jobs = c.args.jobs.now in
    let few : length (drop (c.loop-i.i - 1) jobs) ≤ 1 = omega (arith, length-drop (c.loop-i.i - 1) jobs, c.loop-i-test.false) in
    sym (c.loop-i.invariant ∙ are_ascending_one (λ job. job.name) (drop (c.loop-i.i - 1) jobs) few)
