use Rattle.std.proofs.Common.{◌≡◌, ◌∙◌, None, Some, sym, ap}
use Rattle.std.specs.Option.{option_copied}
use Rattle.up_model.specs.Readings.{file_of}
use Rattle.up_cascade.proofs.KeyLemmas.{placed, file-there}
use Rattle.up_cascade.proofs.moves.file_of.Goals as goal

pub returns-in_ok-share-in-Some : goal.returns-in_ok-share-in-Some
returns-in_ok-share-in-Some g c mode config c' its s there =
    let known : file_of its.place c' ≡ Some c.in-Some.file.now = sym (c.file.ensures mode config c' its.place s (placed config c' c.args.key its there)) ∙ ap option_copied c.in-Some.is in
    ap Some c.in_ok-share-in-Some.ensures ∙ sym known ∙ file-there config c' c.args.key its there

pub returns-in-None : goal.returns-in-None
returns-in-None g c mode config c' its s there =
    let none : file_of its.place c' ≡ None = sym (c.file.ensures mode config c' its.place s (placed config c' c.args.key its there)) ∙ ap option_copied c.in-None.is in
    sym none ∙ file-there config c' c.args.key its there
