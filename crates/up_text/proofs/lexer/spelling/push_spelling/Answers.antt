use Rattle.std.proofs.Common.{arith, rules}
use Rattle.std.proofs.lemmas.Result.{err_from_is_err_and}
use Rattle.up_text.proofs.Runs.{Run-then, Run-fits, Broken-then}
use Rattle.up_text.proofs.lexer.spelling.push_spelling.Goals as goal

pub push_piece-requires-clause-in_range : goal.push_piece-requires-clause-in_range
push_piece-requires-clause-in_range c = omega (arith, Run-fits c.pieces.invariant.run, c.requires)

pub returns-in_err-reached-clause-means : goal.returns-in_err-reached-clause-means
returns-in_err-reached-clause-means c =
    let p = err_from_is_err_and c.from_residual.result c.from_residual.ensures.1 in
    rw (p.1, p.2) (Broken-then c.pieces.invariant.run c.in_err-reached.ensures)

pub pieces-preserved : goal.pieces-preserved
pieces-preserved c = record {
  run = Run-then c.pieces.invariant.run c.in_ok-reached.ensures.0;
  is_text = search rules;
}
