use Rattle.std.proofs.Common.{false, [], refl, arith}
use Rattle.std.proofs.lemmas.Result.{err_from_is_err_and}
use Rattle.std.specs.List.{flat_map}
use Rattle.up_text.proofs.CommandTexts.{Command-read, Command-memory, Command-refused, Told-fits}
use Rattle.up_text.specs.Places.{command_bytes}
use Rattle.up_text.proofs.lexer.Lexer.command_text.Goals as goal

pub returns-in_err-line : goal.returns-in_err-line
returns-in_err-line c =
    let at = c.self.inside in
    let gap = c.after_gap-line.ensures in
    let p = err_from_is_err_and c.from_residual.result c.from_residual.ensures.1 in
    rw (← c.self.view_is, p.1, p.2)
    (Command-refused at.rest.now _ at.line _ at.inside at.parens at.depth _ (gap.run false) gap.ends c.in_err-line.ensures.means)

pub returns-in_err-text : goal.returns-in_err-text
returns-in_err-text c =
    let at = c.self.inside in
    let gap = c.after_gap-line.ensures in
    let told = c.in_ok-line.ensures.means in
    let p = err_from_is_err_and c.from_residual-in_err-text.result c.from_residual-in_err-text.ensures.1 in
    rw (← c.self.view_is, p.1, p.2)
    (Command-memory at.rest.now _ _ at.line _ _ at.inside at.parens at.depth _ _ (gap.run false) gap.ends told c.in_ok-line.ensures.ends)

pub invariant_of-self : goal.invariant_of-self
invariant_of-self c =
    let gap = c.after_gap-line.ensures in
    let fits = Told-fits c.in_ok-line.ensures.means in
    record {
      lines = omega (arith, fits, gap.in_range, c.self.invariant.lines);
      parens = omega (arith, fits, gap.shorter, c.self.invariant.parens);
    }

pub returns : goal.returns
returns c =
    let at = c.self.inside in
    let gap = c.after_gap-line.ensures in
    let told = c.in_ok-line.ensures.means in
    let text = c.in_ok-text.ensures (flat_map command_bytes told.told) (told.pushed [] (rw c.new-out.ensures refl)) in
    rw (← c.self.view_is)
    (Command-read at.rest.now _ _ at.line _ _ at.inside at.parens at.depth _ _ (gap.run false) gap.ends told c.in_ok-line.ensures.ends _ text)
