use Rattle.std.proofs.Common.{refl, subst, Err}
use Rattle.up_disk.specs.Compiling.{Compiles}
use Rattle.up_disk.proofs.Limits.{prints_run}
use Rattle.up_disk.proofs.replay.play_bytes.Goals as goal

pub returns-in-Ok-Err : goal.returns-in-Ok-Err
returns-in-Ok-Err c =
    prints_run c.args.base c.args.name.now c.args.bytes.now (Err c.in-Ok-Err.refusal) c.in-Ok-Err.refusal c.requires
    (subst (Compiles c.args.bytes.now) c.in-Ok-Err.field-0-is c.in-Ok-Err.ensures) refl
