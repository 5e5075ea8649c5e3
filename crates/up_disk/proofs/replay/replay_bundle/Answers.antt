use Rattle.std.proofs.Common.{◌≡◌, Bool, true, IfErr, codes, subst, arith}
use Rattle.up_model.specs.declared.exit_status.ExitStatus.TheVariants.{Unusable}
use Rattle.up_print.specs.Folders.{prints, unusable}
use Rattle.up_print.specs.Noting.{has_failed, inner_of}
use Rattle.up_disk.proofs.Limits.{written_known, refused_known}
use Rattle.up_disk.proofs.replay.replay_bundle.Goals as goal

pub returns-in-Ok : goal.returns-in-Ok
returns-in-Ok g c =
    let read = c.read_all-read.result in
    let line = prints (unusable (codes "-")) Unusable in
    let unread = subst (λ (failed : Bool). IfErr read (λ x. (failed ≡ true) × (c.in-Ok.made ≡ line))) c.has_failed.ensures c.in-Ok.ensures.unread in
    written_known (g.R.Read.remaining (inner_of c.args.reader.now)) read c.in-Ok.made c.write_printed.result (has_failed c.read_all-read.new.reader) (has_failed c.write_printed.new.writer)
    (g.W.Write.contents (inner_of c.args.writer.now)) (g.W.Write.contents (inner_of c.write_printed.new.writer)) c.read_all-read.ensures c.in-Ok.ensures.bundle unread
    c.write_printed.ensures.written c.write_printed.ensures.begun

pub returns-in-Err : goal.returns-in-Err
returns-in-Err g c =
    rw c.from.ensures
    (refused_known (g.R.Read.remaining (inner_of c.args.reader.now)) 4 (has_failed c.read_all-read.new.reader) (has_failed c.args.writer.now)
    (g.W.Write.contents (inner_of c.args.writer.now)) (g.W.Write.contents (inner_of c.args.writer.now)) (omega arith))
