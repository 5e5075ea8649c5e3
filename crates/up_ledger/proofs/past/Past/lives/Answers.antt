use Rattle.std.proofs.Common.{◌∙◌, sym, ap, is_some}
use Rattle.std.specs.Option.{option_copied}
use Rattle.up_model.specs.Queue.{queue}
use Rattle.up_ledger.specs.Eventing.{place_of}
use Rattle.up_job.specs.Changes.{child_of}
use Rattle.up_job.specs.declared.child.Child.{Child}
use Rattle.up_ledger.proofs.Knowing.{knows, is_there, work-known}
use Rattle.up_ledger.proofs.past.Past.lives.Goals as goal

pub returns-in-Some : goal.returns-in-Some
returns-in-Some c config c' i f found =
    let its = knows (place_of c.args.self.now.events (queue c')) c.args.self.now.instances config c' c.args.key i c.in-Some.kept.now f.lives found (sym c.at.ensures ∙ ap option_copied c.in-Some.is) in
    c.is_alive.ensures ∙ ap (λ children. is_some (child_of c.args.process children).pid) its.children ∙ ap (λ (w : Child). is_some w.pid) (work-known c.args.process i c')

pub returns-in-None : goal.returns-in-None
returns-in-None c config c' i f found = is_there (place_of c.args.self.now.events (queue c')) c.args.self.now.instances config c' c.args.key i f.lives found (sym c.at.ensures ∙ ap option_copied c.in-None.is)
