use Rattle.std.proofs.Common.{◌∙◌, ◌++◌, ◌∷◌, [], sym, ap, arith}
use Rattle.std.proofs.lemmas.List.{take_all}
use Rattle.up_cascade.proofs.LoadLemmas.{names-one-more}
use Rattle.up_conf.specs.declared.job.JobDef.{JobDef}
use Rattle.up_model.specs.Files.{job_names}
use Rattle.up_cascade.proofs.setup.names_of.Goals as goal

pub loop-file-init : goal.loop-file-init
loop-file-init c = c.in_ok-names.ensures.items

pub loop-file-preserved : goal.loop-file-preserved
loop-file-preserved c =
    c.in_ok-push.ensures.items ∙ ap (λ name. c.loop-file.names.items ++ name ∷ []) (c.in_ok-copy.ensures ∙ ap (λ (job : JobDef). job.name) c.job.ensures)
    ∙ ap (λ names. names ++ c.file-item.result.name ∷ []) c.loop-file.invariant ∙ sym (names-one-more c.args.files.now c.loop-file.file-index c.file-item.result c.loop-file-test.true c.file-item.is)

pub returns : goal.returns
returns c = c.loop-file.invariant ∙ ap job_names (take_all c.loop-file.file-index c.args.files.now (omega (arith, c.loop-file-test.false)))
