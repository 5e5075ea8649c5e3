use Rattle.std.proofs.Common.{◌≡◌, ◌∙◌, Some, refl, sym, ap}
use Rattle.std.specs.Option.{option_copied}
use Rattle.up_model.specs.Judgement.{carry_out}
use Rattle.up_model.specs.Readings.{file_of}
use Rattle.up_engine.proofs.judgement.verdict_by.Goals as goal

pub returns-in-Some : goal.returns-in-Some
returns-in-Some g c mode config c' i s found =
    let file : file_of i c' ≡ Some c.in-Some.file.now = sym (c.file.ensures mode config c' i s found) ∙ ap option_copied c.in-Some.is in
    let verdict = rw c.job.ensures at (c.verdict_on_end.ensures mode config c' i s found (file ∙ ap Some (sym c.job.ensures))) in
    rw file (i, (found, ap (λ v. carry_out i v c') (sym verdict)))

pub returns-in-None : goal.returns-in-None
returns-in-None g c mode config c' i s found =
    let none = sym (c.file.ensures mode config c' i s found) ∙ ap option_copied c.in-None.is in
    rw none refl
