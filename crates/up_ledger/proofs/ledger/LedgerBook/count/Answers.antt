use Rattle.std.proofs.Common.{◌∙◌, ap, length}
use Rattle.up_model.specs.Instances.{instances_of}
use Rattle.up_book.proofs.Keyed.{job-named}
use Rattle.up_ledger.proofs.ledger.LedgerBook.count.Goals as goal

pub returns : goal.returns
returns c mode config c' its s named =
    let job = job-named config c.args.job its named in
    c.count.ensures config c' job.0 s.past job.1 ∙ ap (λ name. length (instances_of name c')) job.2
