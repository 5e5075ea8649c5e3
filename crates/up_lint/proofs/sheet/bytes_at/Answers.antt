use Rattle.std.proofs.Common.{◌∙◌, ap, sym}
use Rattle.std.specs.Str.{bytes_eq}
use Rattle.up_lint.specs.Sheets.{bytes_at}
use Rattle.up_lint.proofs.Files.{other_file}
use Rattle.up_lint.proofs.sheet.bytes_at.Goals as goal

pub loop-file-preserved : goal.loop-file-preserved
loop-file-preserved c =
    let path = c.args.path.now in
    other_file c.args.files.now c.loop-file.file-index c.file-item.result path (bytes_at c.args.files.now path)
    c.loop-file-test.true c.file-item.is (ap (λ it. bytes_eq it path) (sym c.as_str.ensures) ∙ sym c.if-eq.ensures) c.loop-file.invariant
