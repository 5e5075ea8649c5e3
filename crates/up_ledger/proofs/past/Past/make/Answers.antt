use Rattle.std.proofs.Common.{◌∙◌, [], ap, refl, subst}
use Rattle.up_conf.specs.declared.job.JobDef.{JobDef}
use Rattle.up_marks.specs.Triggers.{Remembers}
use Rattle.up_book.specs.Views.{Places}
use Rattle.up_job.specs.InstanceLists.{new_instance}
use Rattle.up_job.specs.JobLists.{with_made}
use Rattle.up_job.specs.Lists.{with_at}
use Rattle.up_ledger.specs.declared.past.Past.{Past}
use Rattle.up_ledger.proofs.Beginning.{blank-unused}
use Rattle.up_ledger.proofs.Making.{forgets-made, made-key}
use Rattle.up_ledger.proofs.past.Past.make.Goals as goal

pub returns-clause-after : goal.returns-clause-after
returns-clause-after c config c' f there none =
    let trigger = c.in_ok-stop_on.stop_on in
    let job = c.args.file.now in
    let blank : (places : Places) → Remembers places trigger job.stop_on [] = λ places. subst (λ (j : JobDef). Remembers places trigger j.stop_on []) c.job.ensures (c.in_ok-stop_on.ensures places) in
    forgets-made c.args.self.now _ config c' c.args.place job c.args.name.now trigger f there none blank (blank-unused trigger job.stop_on blank)
    (ap (λ (p : Past). p.instances) c.in_ok-at.ensures.added
    ∙ ap (λ file. with_at c.args.place (with_made (new_instance c.args.name.now file trigger)) c.args.self.now.instances) c.in_ok-share.ensures)
    (ap (λ (p : Past). p.starts) c.in_ok-at.ensures.added) (ap (λ (p : Past). p.events) c.in_ok-at.ensures.added) (ap (λ (p : Past). p.reading) c.in_ok-at.ensures.added)

pub returns-clause-made : goal.returns-clause-made
returns-clause-made c config c' f there =
    made-key c.args.self.now _ config c' c.args.place c.in_ok-at.at c.args.file.now _ c.args.name.now f there (ap (λ (p : Past). p.instances) c.in_ok-at.ensures.added) c.in_ok-at.ensures.position refl
