use Rattle.std.proofs.Common.{◌≡◌, ◌∙◌, ◌+◌, ◌++◌, [], drop, sym, ap, arith, append_assoc, append-nil}
use Rattle.std.proofs.lemmas.List.{drop_all}
use Rattle.up_engine.proofs.AnswerLemmas.{list_left}
use Rattle.up_cascade.proofs.KeyLemmas.{named_there}
use Rattle.up_model.specs.Commands.{job_lines, list_lines}
use Rattle.up_model.specs.Configuration.{is_removed}
use Rattle.up_model.specs.Files.{job_names}
use Rattle.up_model.specs.Instances.{instances_of}
use Rattle.up_engine.proofs.status.lines_of.Goals as goal

pub loop-index-preserved : goal.loop-index-preserved
loop-index-preserved g c mode c' s =
    let config = c.args.setup.now in
    let jobs = c.jobs-jobs.result.now in
    let n = c.loop-index.index in
    let job = c.index-jobs-index.result in
    let named = named_there config jobs n job c.jobs-jobs.ensures c.loop-index-test.true c.index-jobs-index.is in
    let its = instances_of job.name c' in
    let rest = list_lines config (job_names (drop (n + 1) jobs)) c' in
    ap (λ lines. lines ++ rest) (rw c.job.ensures at (c.in_ok-add_job.ensures mode c' s (rw c.job.ensures named)))
    ∙ append_assoc c.loop-index.lines.items (job_lines job.name (is_removed config job.name) its c') rest
    ∙ ap (λ left. c.loop-index.lines.items ++ left) (sym (list_left config jobs n job c' c.loop-index-test.true c.index-jobs-index.is))
    ∙ c.loop-index.invariant mode c' s

pub returns : goal.returns
returns g c mode c' s =
    let config = c.args.setup.now in
    let n = c.loop-index.index in
    let over : drop n c.jobs-jobs.result.now ≡ [] = drop_all n c.jobs-jobs.result.now (omega arith) in
    sym (append-nil c.loop-index.lines.items) ∙ ap (λ js. c.loop-index.lines.items ++ list_lines config (job_names js) c') (sym over) ∙ c.loop-index.invariant mode c' s
    ∙ ap (λ js. list_lines config (job_names js) c') c.jobs-jobs.ensures
