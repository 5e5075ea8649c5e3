use Rattle.std.proofs.Common.{inl, rules}
use Rattle.up_disk.proofs.Stored.{given, read_is}
use Rattle.up_disk.proofs.image.show_bytes.Goals as goal

pub returns-in-Ok : goal.returns-in-Ok
returns-in-Ok g c =
    given c.show_table.result (λ made shows. inl (_, read_is c.args.bytes.now _ _ c.in-Ok.ensures, shows)) c.show_table.ensures

pub returns-in-Err : goal.returns-in-Err
returns-in-Err c = search rules
