use Rattle.std.proofs.Common.{◌∙◌, sym, ap}
use Rattle.std.specs.Option.{option_copied}
use Rattle.up_conf.specs.declared.job.JobDef.{JobDef}
use Rattle.up_model.specs.Clock as clock
use Rattle.up_model.specs.Queue.{queue}
use Rattle.up_ledger.specs.Eventing.{place_of}
use Rattle.up_ledger.proofs.Knowing.{is_there}
use Rattle.up_ledger.proofs.Overdue.{kept-file, timer-known}
use Rattle.up_ledger.proofs.past.Past.is_overdue.Goals as goal

pub returns-in-Some : goal.returns-in-Some
returns-in-Some c config c' i job f found file =
    let kept = sym c.at.ensures ∙ ap option_copied c.in-Some.is in
    c.is_overdue.ensures.model i c' f.reading (timer-known c.args.self.now config c' c.args.key i c.in-Some.kept.now f found kept)
    ∙ ap (λ (j : JobDef). clock.kill_due j i c') (kept-file c.args.self.now config c' c.args.key i c.in-Some.kept.now job f found kept file)

pub returns-in-None : goal.returns-in-None
returns-in-None c config c' i job f found file = is_there (place_of c.args.self.now.events (queue c')) c.args.self.now.instances config c' c.args.key i f.lives found (sym c.at.ensures ∙ ap option_copied c.in-None.is)
