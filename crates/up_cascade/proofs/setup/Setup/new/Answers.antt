use Rattle.std.proofs.Common.{map, ◌∙◌, sym, ap, subst}
use Rattle.up_cascade.specs.Naming.{name_of}
use Rattle.up_book.proofs.Tables.{table-order}
use Rattle.up_job.specs.Named.{AreInOrder}
use Rattle.up_model.specs.Environments.{job_env}
use Rattle.up_cascade.proofs.setup.Setup.new.Goals as goal

pub invariant_of-result : goal.invariant_of-result
invariant_of-result c = (
  c.in_ok-environments.ensures ∙ ap (map (job_env c.args.base)) c.as_slice.ensures.value,
  subst (AreInOrder name_of) (sym c.in_ok-files.ensures) (table-order _ c.is_given.ensures),
)
