use Rattle.std.proofs.Common.{◌∙◌, sym, ap, take}
use Rattle.up_conf.specs.Folders.{bytes_at}
use Rattle.up_conf.specs.Lookups.{also}
use Rattle.up_conf.proofs.Lookups.{bytes_at_more}
use Rattle.up_conf.proofs.folder_index.map_of.Goals as goal

pub loop-file-preserved : goal.loop-file-preserved
loop-file-preserved c = λ path.
    c.in_ok-add.ensures path ∙ ap (also path c.file-item.result) (c.loop-file.invariant path)
    ∙ ap (λ file. also path file (bytes_at path (take c.loop-file.file-index c.args.files.now))) c.file-item.is
    ∙ sym (bytes_at_more path c.args.files.now c.loop-file.file-index c.file-item.result c.loop-file-test.true)
