use Rattle.std.proofs.Common.{arith}
use Rattle.up_text.proofs.Scripting.{EndsScript-fits}
use Rattle.up_text.proofs.lexer.Lexer.script_lines.Goals as goal

pub invariant_of-self : goal.invariant_of-self
invariant_of-self c =
    let fits = EndsScript-fits c.self.inside.rest.now c.self.inside.line _ _ _ c.in-Some.ensures in
    record {
      lines = omega (arith, fits, c.self.invariant.lines);
      parens = omega (arith, fits, c.self.invariant.parens);
    }
