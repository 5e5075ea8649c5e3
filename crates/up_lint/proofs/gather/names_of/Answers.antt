use Rattle.std.proofs.Common.{[], ◌∙◌, ap}
use Rattle.std.specs.List.{flat_map}
use Rattle.std.specs.Str.{bytes_eq}
use Rattle.up_conf.specs.Jobs.{with_new_item}
use Rattle.up_lint.specs.Lint.{name_in}
use Rattle.up_lint.specs.Names.{with_names}
use Rattle.up_lint.proofs.Adding.{added_next}
use Rattle.up_lint.proofs.gather.names_of.Goals as goal

pub loop-job-preserved : goal.loop-job-preserved
loop-job-preserved c =
    added_next name_in c.args.jobs.now c.loop-job.job-index c.job-item.result c.loop-job.names c.add.new.self (with_names [] (flat_map name_in c.args.jobs.now))
    c.loop-job-test.true c.job-item.is (c.in_ok-add.ensures ∙ ap (with_new_item bytes_eq c.loop-job.names) (c.as_bytes.ensures.value ∙ c.as_str.ensures.text)) c.loop-job.invariant
