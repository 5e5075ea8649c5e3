use Rattle.std.proofs.Common.{◌∙◌, refl, codes}
use Rattle.clap.specs.Words.{all_of, found_of, rows_of}
use Rattle.clap.proofs.WalkLemmas.{raw_values-rows}
use Rattle.up_wire.specs.Words.{is_set, text_in, texts_in}
use Rattle.up_wire.proofs.Cutting.{made_of, texts, texts_or_none}
use Rattle.up_wire.proofs.words.request_in.Goals as goal

pub returns : goal.returns
returns c =
    let given = found_of c.args.given.now in
    let rows = rows_of given in
    let words = texts_or_none c.get_strs.result c.unwrap_or-words.result _ (all_of (codes "VARS") rows) c.unwrap_or-words.ensures refl (c.get_strs.ensures ∙ raw_values-rows given (codes "VARS")) in
    made_of c.request_with.result c.args.command c.is_set-wait.result (is_set (codes "no-wait") rows) c.text_in-name.result.now (text_in (codes "NAME") rows) (texts c.unwrap_or-words.result.now) (texts_in (codes "VARS") rows) c.is_set-wait.ensures c.text_in-name.ensures words c.request_with.ensures
