use Rattle.std.proofs.Common.{◌∙◌, ap, option_map, Some}
use Rattle.up_model.specs.Instances.{instance_named}
use Rattle.up_model.specs.Queue.{queue}
use Rattle.up_ledger.specs.Eventing.{place_of}
use Rattle.up_book.specs.Keys.{called}
use Rattle.up_book.proofs.Keyed.{job-named, places-keyed}
use Rattle.up_ledger.proofs.ledger.LedgerBook.find.Goals as goal

pub returns-clause-place : goal.returns-clause-place
returns-clause-place c mode config c' its s named =
    let past = c.args.self.now.past in
    let job = job-named config c.args.job its named in
    places-keyed (place_of past.events (queue c')) past.instances config c' c.find.result s.past.lives.jobs ∙ c.find.ensures.place config c' job.0 s.past job.1
    ∙ ap (λ name. option_map Some (instance_named (called name c.args.name.now) c')) job.2
