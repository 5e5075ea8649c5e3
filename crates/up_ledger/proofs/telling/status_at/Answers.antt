use Rattle.std.proofs.Common.{◌≡◌, ◌∙◌, sym, ap, Some}
use Rattle.std.specs.Option.{option_copied}
use Rattle.up_ledger.proofs.telling.status_at.Goals as goal

pub returns-in_ok-text-in-Some : goal.returns-in_ok-text-in-Some
returns-in_ok-text-in-Some c places its named =
    let both : Some c.in-Some.job.now ≡ Some its.name = sym (ap option_copied c.in-Some.is) ∙ c.job_name.ensures ∙ named in
    c.in_ok-text-in-Some.ensures places its cc
