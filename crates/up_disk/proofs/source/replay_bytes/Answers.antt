use Rattle.std.proofs.Common.{inl}
use Rattle.up_disk.proofs.Stored.{given, read_is}
use Rattle.up_disk.proofs.source.replay_bytes.Goals as goal

pub returns-in-Ok : goal.returns-in-Ok
returns-in-Ok g c =
    given c.replay_table-made.result (λ made plays. inl (_, read_is c.args.bytes.now _ _ c.in-Ok.ensures, plays)) c.replay_table-made.ensures
