use Rattle.std.proofs.Common.{sym, arith}
use Rattle.up_pattern.proofs.Lone.{takes-lone, lone-takes, lone-place, lone-settled}
use Rattle.up_pattern.proofs.Matches.{takes-more}
use Rattle.up_pattern.proofs.Segments.{drop-next}
use Rattle.up_pattern.proofs.pattern.take_items.Goals as goal

pub items-preserved : goal.items-preserved
items-preserved c =
    let before = c.items.invariant in
    let one = takes-more _ _ _ _ _ _ _ before.takes c.in-Some.ensures.none (sym c.if-is_run.ensures) c.in-Some-take_byte.ensures.taken in
    let next = drop-next c.items.index _ _ _ _ before.place c.in-Some.ensures.none in
    let length = c.lone_length-lone.ensures in
    let lone = takes-lone _ _ _ length.text length.bytes length.admits in
    record {
      takes = rw (c.split_at.ensures.back, c.split_at-in-Some.ensures.back) (lone-takes _ _ _ _ _ one lone);
      place = rw c.split_at.ensures.back (lone-place _ _ _ _ _ next lone);
      settled = rw c.split_at.ensures.back (lone-settled _ _ _ _ c.in-Some.ensures.settled lone);
      shorter = omega (arith, c.in-Some.ensures.shorter, c.split_at.ensures.back_len);
      kept = c.take_byte.ensures.kept;
    }
