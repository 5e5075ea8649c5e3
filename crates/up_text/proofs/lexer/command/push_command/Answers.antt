use Rattle.std.proofs.Common.{◌∙◌, sym, arith, rules}
use Rattle.std.proofs.lemmas.Result.{err_from_is_err_and}
use Rattle.up_text.proofs.CommandTexts.{Told-then, Told-none, Told-fits, Refused-then, begins-word}
use Rattle.up_text.proofs.lexer.command.push_command.Goals as goal

pub words-init : goal.words-init
words-init c = record {
  told = Told-none c.args.text.now c.args.line c.args.out.now;
  begins = c.requires.begins;
  is_text = search rules;
}

pub push_word-requires-clause-in_range : goal.push_word-requires-clause-in_range
push_word-requires-clause-in_range c = omega (arith, (Told-fits c.words.invariant.told).0, c.requires.in_range)

pub push_word-requires-clause-begins : goal.push_word-requires-clause-begins
push_word-requires-clause-begins c = begins-word _ (sym c.is_line_end.ensures ∙ c.words-test.true) c.words.invariant.begins

pub returns-in_err-reached-clause-means : goal.returns-in_err-reached-clause-means
returns-in_err-reached-clause-means c =
    let p = err_from_is_err_and c.from_residual.result c.from_residual.ensures.1 in
    rw (p.1, p.2) (Refused-then c.words.invariant.told c.in_err-reached.ensures.means)

pub words-preserved : goal.words-preserved
words-preserved c = record {
  told = Told-then c.words.invariant.told c.in_ok-reached.ensures.means;
  begins = c.in_ok-reached.ensures.ends;
  is_text = search rules;
}
