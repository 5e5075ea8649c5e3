use Rattle.up_text.specs.Expansion.{expand}
use Rattle.up_cascade.proofs.Starting.{gives_target}
use Rattle.up_engine.proofs.target.target_in.Goals as goal

pub returns-in-Ok-Text-clause-target : goal.returns-in-Ok-Text-clause-target
returns-in-Ok-Text-clause-target g c mode c' s in_table same =
    let job = c.args.file.now in
    let name = expand job.instance c.args.environment in
    let started = rw c.as_str-in-Ok-Text.ensures at (c.in_ok-environment-in-Ok-Text.ensures mode c' job s in_table same) in
    gives_target c.args.setup.now job c.args.vars.now c' _ c.in_ok-who-in-Ok-Text.who name c.in-Ok-Text.name (rw (c.as_str.ensures, c.in-Ok-Text.field-0-is, c.job-job.ensures) at c.in-Ok-Text.ensures) (rw c.job-job.ensures at c.in_ok-who-in-Ok-Text.ensures) started
