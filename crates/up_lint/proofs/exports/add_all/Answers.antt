use Rattle.std.specs.List.{flat_map}
use Rattle.up_lint.specs.Exports.{keys_in}
use Rattle.up_lint.specs.Names.{with_names}
use Rattle.up_lint.proofs.Adding.{added_next}
use Rattle.up_lint.proofs.exports.add_all.Goals as goal

pub loop-word-preserved : goal.loop-word-preserved
loop-word-preserved c =
    added_next keys_in c.args.words.now c.loop-word.word-index c.word-item.result c.loop-word.names c.add_text.new.names (with_names c.args.names.now (flat_map keys_in c.args.words.now))
    c.loop-word-test.true c.word-item.is c.in_ok-add_text.ensures c.loop-word.invariant
