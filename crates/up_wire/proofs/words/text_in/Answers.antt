use Rattle.std.proofs.Common.{◌∙◌, [], sym, ap, option_map}
use Rattle.std.specs.Prelude.{unwrap_or}
use Rattle.clap.specs.Words.{found_of}
use Rattle.clap.proofs.WalkLemmas.{first_value-rows}
use Rattle.up_wire.proofs.words.text_in.Goals as goal

pub returns-in-Some : goal.returns-in-Some
returns-in-Some c =
    let read = ap (option_map (λ s. s.now)) (sym c.in-Some.is) ∙ (c.get_str.ensures ∙ first_value-rows (found_of c.args.given.now) c.args.argument.now) in
    ap (λ o. unwrap_or o []) read

pub returns-in-None : goal.returns-in-None
returns-in-None c =
    let read = ap (option_map (λ s. s.now)) (sym c.in-None.is) ∙ (c.get_str.ensures ∙ first_value-rows (found_of c.args.given.now) c.args.argument.now) in
    ap (λ o. unwrap_or o []) read
