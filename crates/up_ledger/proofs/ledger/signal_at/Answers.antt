use Rattle.std.proofs.Common.{◌∙◌, sym, ap}
use Rattle.std.specs.Option.{option_copied}
use Rattle.up_job.specs.Lists.{nth}
use Rattle.up_book.specs.Views.{kept_at}
use Rattle.up_ledger.proofs.Ledgers.{sent-so}
use Rattle.up_ledger.proofs.ledger.signal_at.Goals as goal

pub returns-in_ok-sent-in-Some-Some : goal.returns-in_ok-sent-in-Some-Some
returns-in_ok-sent-in-Some-Some c =
    sent-so (nth c.args.key.job c.args.instances.now) (kept_at c.args.key c.args.instances.now) c.in-Some-Some.job.now c.in-Some-Some.kept.now c.args.signal c.in_ok-sent-in-Some-Some.sent
    (sym c.job_name.ensures ∙ ap option_copied c.in-Some-Some.is-0) (sym c.at.ensures ∙ ap option_copied c.in-Some-Some.is-1) c.in_ok-sent-in-Some-Some.ensures
