use Rattle.up_wire.proofs.Cutting.{words_next, words_stop}
use Rattle.up_wire.proofs.words.with_words.Goals as goal

pub returns-in-Err : goal.returns-in-Err
returns-in-Err c = words_stop c.in-Err.fault c.args.words.now c.loop-word.word-index c.loop-word.vars c.set_word.new.vars _ c.loop-word-test.true c.loop-word.invariant c.in-Err.ensures

pub loop-word-preserved : goal.loop-word-preserved
loop-word-preserved c = words_next c.args.words.now c.loop-word.word-index c.loop-word.vars c.set_word.new.vars _ c.loop-word-test.true c.loop-word.invariant c.in_default.ensures
