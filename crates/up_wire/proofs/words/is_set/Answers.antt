use Rattle.std.proofs.Common.{◌∙◌, false, sym, ap, codes}
use Rattle.std.specs.Option.{option_map_or}
use Rattle.std.specs.Prelude.{unwrap_or}
use Rattle.std.specs.Str.{bytes_eq}
use Rattle.clap.specs.Words.{found_of, one_text}
use Rattle.clap.proofs.WalkLemmas.{one_text-rows}
use Rattle.up_wire.proofs.Flags.{flag_is}
use Rattle.up_wire.proofs.words.is_set.Goals as goal

pub returns-in-Some : goal.returns-in-Some
returns-in-Some c =
    let given = found_of c.args.given.now in
    let all = flag_is _ (one_text given c.args.flag.now) c.get_one.result c.get_one.ensures.none c.get_one.ensures.value in
    ap (λ o. unwrap_or o false) (sym c.in-Some.is) ∙ (all ∙ ap (λ o. option_map_or (λ text. bytes_eq text (codes "true")) o false) (one_text-rows given c.args.flag.now))

pub returns-in-None : goal.returns-in-None
returns-in-None c =
    let given = found_of c.args.given.now in
    let all = flag_is _ (one_text given c.args.flag.now) c.get_one.result c.get_one.ensures.none c.get_one.ensures.value in
    ap (λ o. unwrap_or o false) (sym c.in-None.is) ∙ (all ∙ ap (λ o. option_map_or (λ text. bytes_eq text (codes "true")) o false) (one_text-rows given c.args.flag.now))
