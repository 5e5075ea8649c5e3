use Rattle.std.proofs.Common.{[], drop, sym, ap, subst, ◌∙◌}
use Rattle.byteorder.specs.Endian.{big_number}
use Rattle.up_image.specs.Finding.{Refuses, items_at, job_at}
use Rattle.up_image.proofs.Readings.{no_jobs, no_table}
use Rattle.up_image.proofs.read_image.read_body.Goals as goal

pub returns-in-Err-clause-refused : goal.returns-in-Err-clause-refused
returns-in-Err-clause-refused c = λ is.
    let job = job_at c.args.version in
    let refused : Refuses c.in-Err.read_fault (items_at job (big_number 2 (drop 6 c.args.bytes.now)) [] (drop 12 c.args.bytes.now)) =
    subst (λ n. Refuses c.in-Err.read_fault (items_at job n [] (drop 12 c.args.bytes.now))) c.job_count.ensures
    (subst (λ b. Refuses c.in-Err.read_fault (items_at job c.job_count.result [] b)) c.after_head.ensures c.in-Err.ensures) in
    no_jobs c.args.version c.args.bytes.now c.in-Err.read_fault refused c.requires.version is

pub returns-in-Err-checked-clause-refused : goal.returns-in-Err-checked-clause-refused
returns-in-Err-checked-clause-refused c = λ is.
    let found =
    ap (λ n. items_at (job_at c.args.version) n [] (drop 12 c.args.bytes.now)) (sym c.job_count.ensures)
    ∙ (ap (λ b. items_at (job_at c.args.version) c.job_count.result [] b) (sym c.after_head.ensures) ∙ c.in-Ok.ensures) in
    no_table c.args.version c.args.bytes.now c.in-Ok.jobs.items c.in-Ok._index.now c.requires.version found (c.in-Err-checked.ensures.refused is)
