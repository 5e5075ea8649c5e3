use Rattle.std.proofs.Common.{◌≡◌, ◌∙◌, ◌+◌, ◌++◌, ◌<◌, [], Some, map, drop, length, sym, ap, arith, refl, add-one, append_assoc, append-nil}
use Rattle.std.proofs.lemmas.List.{drop_all}
use Rattle.up_engine.proofs.ClockLemmas.{none_of_job}
use Rattle.up_cascade.proofs.KeyLemmas.{job-at, job_name}
use Rattle.up_model.specs.Clock.{overdue, all_overdue}
use Rattle.up_model.specs.Files.{job_names}
use Rattle.up_model.specs.Instances.{instances_of}
use Rattle.up_engine.proofs.time.all_overdue.Goals as goal

pub loop-index-init : goal.loop-index-init
loop-index-init g c mode config c' s are = ([], rw c.no_keys-keys.ensures refl, refl)

pub loop-index-preserved : goal.loop-index-preserved
loop-index-preserved g c mode config c' s are =
    let jobs = c.args.jobs.now in
    let n = c.loop-index.index in
    let inside : n < length jobs = omega (arith, c.loop-index-test.true) in
    let at = job-at config jobs n are inside in
    let job = at.0 in
    let old = c.loop-index.invariant mode config c' s are in
    let its = instances_of job.name c' in
    let now = c.in_ok-add_overdue.ensures.after mode config c' job.name old.0 s (job_name config n job at.1.0) old.1 in
    let left : all_overdue (job_names (drop n jobs)) c' ≡ overdue its c' ++ all_overdue (job_names (drop (n + 1) jobs)) c' =
    rw add-one (ap (λ js. all_overdue (job_names js) c') at.1.1) in (
      old.0 ++ overdue its c',
      now,
      append_assoc old.0 (overdue its c') (all_overdue (job_names (drop (n + 1) jobs)) c') ∙ ap (λ rest. old.0 ++ rest) (sym left) ∙ old.2,
    )

pub returns-clause-after : goal.returns-clause-after
returns-clause-after g c mode config c' s are =
    let jobs = c.args.jobs.now in
    let n = c.loop-index.index in
    let over : drop n jobs ≡ [] = drop_all n jobs (omega arith) in
    let old = c.loop-index.invariant mode config c' s are in
    old.1 ∙ ap (map Some) (sym (append-nil old.0) ∙ ap (λ js. old.0 ++ all_overdue (job_names js) c') (sym over) ∙ old.2 ∙ ap (λ js. all_overdue (job_names js) c') are)

pub returns-in_err-add_overdue-clause-free : goal.returns-in_err-add_overdue-clause-free
returns-in_err-add_overdue-clause-free g c mode config c' s are none =
    let jobs = c.args.jobs.now in
    let n = c.loop-index.index in
    let inside : n < length jobs = omega (arith, c.loop-index-test.true) in
    let at = job-at config jobs n are inside in
    let never = c.in_err-add_overdue.ensures.free mode config c' at.0.name s (job_name config n at.0 at.1.0)
    (none_of_job config jobs n at.0 _ c' at.1.1 (ap (λ js. all_overdue (job_names js) c') are ∙ none)) in
    absurd cc
