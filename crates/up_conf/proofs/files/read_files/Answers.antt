use Rattle.std.proofs.Common.{◌∙◌, ap, option_and_then, option_to_list, ◌++◌}
use Rattle.std.specs.Result.{result_err}
use Rattle.up_conf.specs.Folders.{job_of_file, spot_of_file}
use Rattle.up_conf.proofs.Folders.{kept}
use Rattle.up_conf.proofs.Reports.{faults_kept}
use Rattle.up_conf.proofs.files.read_files.Goals as goal

pub loop-file-preserved : goal.loop-file-preserved
loop-file-preserved c =
    let files = c.files-files.result.now in
    let job = rw (← c.files-files.ensures) at c.in_ok-outcome.ensures.job in
    let fault = rw (← c.files-files.ensures) at c.in_ok-outcome.ensures.fault in
    record {
      jobs = kept (job_of_file files) files c.loop-file.file-index c.file-item.result _ _ c.loop-file-test.true c.file-item.is c.loop-file.invariant.jobs
          (c.in_ok-keep.ensures.jobs ∙ ap (λ outcome. c.loop-file.jobs.items ++ option_to_list outcome) job);
      faults = faults_kept (spot_of_file files) files c.loop-file.file-index c.file-item.result c.loop-file.faults.items _ (option_and_then result_err c.in_ok-outcome.outcome) c.loop-file-test.true c.file-item.is c.loop-file.invariant.faults
          fault c.in_ok-keep.ensures.faults;
    }
