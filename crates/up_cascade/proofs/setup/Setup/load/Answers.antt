use Rattle.std.proofs.Common.{◌∙◌, sym, ap, subst, map}
use Rattle.up_cascade.specs.Naming.{AreOthers, name_of}
use Rattle.up_cascade.proofs.LoadLemmas.{merged-order}
use Rattle.up_book.proofs.Tables.{table-order}
use Rattle.up_job.specs.Named.{AreInOrder}
use Rattle.up_model.specs.Environments.{job_env}
use Rattle.up_cascade.proofs.setup.Setup.load.Goals as goal

pub going_on-requires : goal.going_on-requires
going_on-requires g c = record { new = subst (AreInOrder name_of) (sym (c.as_slice.ensures.value ∙ c.in_ok-new.ensures)) (table-order c.args.table c.is_given.ensures); old = subst (AreInOrder name_of) (sym c.jobs.ensures) c.is_ordered.ensures }

pub invariant_of-result : goal.invariant_of-result
invariant_of-result g c = (
  c.in_ok-environments.ensures ∙ ap (map (job_env c.in_ok-base.base)) c.as_slice-3.ensures.value,
  subst (AreInOrder name_of) (sym c.in_ok-files.ensures)
      (merged-order c.in_ok-new.new.items c.in_ok-going.going.items (subst (AreInOrder name_of) (sym c.in_ok-new.ensures) (table-order c.args.table c.is_given.ensures)) c.in_ok-going.ensures.order
      (subst (λ js. AreOthers js c.in_ok-going.going.items) c.as_slice.ensures.value c.in_ok-going.ensures.others)),
)
