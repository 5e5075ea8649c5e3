use Rattle.std.proofs.Common.{◌+◌, arith, length}
use Rattle.std.specs.List.{flat_map}
use Rattle.up_wire.specs.Frames.{variable}
use Rattle.up_wire.proofs.Sizes.{variable_fits, next_size, length-take_flat, not_within}
use Rattle.up_wire.proofs.writing.are_within.Goals as goal

pub returns-then-key-most : goal.returns-then-key-most
returns-then-key-most c =
    let fits = variable_fits c.args.vars.now c.loop-i.i _ _ c.at.ensures.pair in
    not_within (length (flat_map variable c.args.vars.now)) c.args.most (omega (arith, fits, c.if-key-most.true))

pub returns-then-value-most : goal.returns-then-value-most
returns-then-value-most c =
    let fits = variable_fits c.args.vars.now c.loop-i.i _ _ c.at.ensures.pair in
    not_within (length (flat_map variable c.args.vars.now)) c.args.most (omega (arith, fits, c.if-value-most.true))

pub returns-then-size-most : goal.returns-then-size-most
returns-then-size-most c =
    let next = next_size c.args.vars.now c.loop-i.i _ _ c.at.ensures.pair in
    let all = length-take_flat c.args.vars.now (c.loop-i.i + 1) in
    not_within (length (flat_map variable c.args.vars.now)) c.args.most (omega (arith, next, all, c.loop-i.invariant.size_is, c.if-size-most.true))

pub loop-i-preserved : goal.loop-i-preserved
loop-i-preserved c =
    let next = next_size c.args.vars.now c.loop-i.i _ _ c.at.ensures.pair in
    record { size_is = omega (arith, next, c.loop-i.invariant.size_is); within = omega (arith, c.if-size-most.false) }
