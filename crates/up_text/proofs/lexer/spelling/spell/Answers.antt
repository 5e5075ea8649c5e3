use Rattle.std.proofs.Common.{◌++◌, [], refl}
use Rattle.std.proofs.lemmas.Result.{err_from_is_err_and}
use Rattle.std.specs.List.{flat_map}
use Rattle.up_text.proofs.Readings.{token-memory, spelled-read}
use Rattle.up_text.proofs.Runs.{Run-fits, Run-shrinks}
use Rattle.up_text.specs.Places.{token_bytes}
use Rattle.up_text.proofs.Readings.{ordinary-broken}
use Rattle.up_text.proofs.lexer.spelling.spell.Goals as goal

pub returns-in_err-reached-clause-gives : goal.returns-in_err-reached-clause-gives
returns-in_err-reached-clause-gives c = λ inside depth.
    let p = err_from_is_err_and c.from_residual.result c.from_residual.ensures.1 in
    rw (p.1, p.2) (ordinary-broken c.args.parens c.args.ordinary.now c.args.text.now c.args.line _ inside depth c.requires.ordinary c.requires.quotes c.in_err-reached.ensures.means)

pub returns-in_err-text-clause-gives : goal.returns-in_err-text-clause-gives
returns-in_err-text-clause-gives c = λ inside depth.
    let p = err_from_is_err_and c.from_residual-in_err-text.result c.from_residual-in_err-text.ensures.1 in
    let run = c.in_ok-reached.ensures.means in
    rw (p.1, p.2) (token-memory _ _ _ (spelled-read c.args.parens c.args.ordinary.now c.args.text.now _ c.args.line _ _ _ run inside depth c.requires.ordinary c.requires.begins c.requires.quotes c.in_ok-reached.ensures.ends))

pub returns-clause-gives : goal.returns-clause-gives
returns-clause-gives c = λ inside depth.
    let run = c.in_ok-reached.ensures.means in
    let text = c.in_ok-text.ensures (c.args.ordinary.now ++ flat_map token_bytes run.front) (run.pushed _ (c.push.ensures [] (rw c.new-out.ensures refl))) in
    rw text (spelled-read c.args.parens c.args.ordinary.now c.args.text.now _ c.args.line _ _ _ run inside depth c.requires.ordinary c.requires.begins c.requires.quotes c.in_ok-reached.ensures.ends)

pub returns-clause-in_range : goal.returns-clause-in_range
returns-clause-in_range c = (Run-fits c.in_ok-reached.ensures.means, Run-shrinks c.in_ok-reached.ensures.means)
