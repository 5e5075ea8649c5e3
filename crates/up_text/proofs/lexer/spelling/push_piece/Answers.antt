use Rattle.std.proofs.Common.{◌≡◌, ◌<◌, ◌∙◌, sym, true, false, length, arith}
use Rattle.std.proofs.lemmas.Result.{MatchResult-weaker}
use Rattle.up_text.proofs.Runs.{begins-low, quote-low, begins-filled, drop-shorter, Run-then, Run-shrinks, Run-escape_outside, Broken-backslash, Broken-then, Run-opening, Run-ordinary, Escape-shorter, Splits-shorter, not-joint, ordinary-first}
use Rattle.up_text.specs.Lexer.{is_byte, is_ordinary, Run}
use Rattle.up_text.specs.Tokens.{Outside, Quoted, is_backslash}
use Rattle.up_pattern.specs.Lists.{begins}
use Rattle.up_text.proofs.lexer.spelling.push_piece.Goals as goal

pub returns-in-Some : goal.returns-in-Some
returns-in-Some c = (Run-escape_outside c.args.parens c.args.keep c.args.text.now _ c.args.line _ _ c.in-Some.ensures (not-joint c.args.parens c.args.text.now c.requires.begins), Escape-shorter c.args.keep c.args.text.now _ _ _ c.in-Some.ensures)

pub returns-in-None : goal.returns-in-None
returns-in-None c = Broken-backslash c.args.parens c.args.text.now c.in-None.ensures

pub split_first-requires : goal.split_first-requires
split_first-requires c =
    let at = c.in-Some-first_quote.ensures in
    begins-low (is_byte c.in-Some-first_quote.quote) c.args.text.now (quote-low c.in-Some-first_quote.quote at.0) at.1

pub returns-in-Some-first_quote : goal.returns-in-Some-first_quote
returns-in-Some-first_quote c =
    let quote = c.in-Some-first_quote.quote in
    let at = c.in-Some-first_quote.ensures in
    let opening : Run c.args.parens c.args.keep (Outside false) c.args.text.now c.args.line (Quoted quote false) c.split_first.result.1.now c.args.line c.args.out.now c.push_quoting.new.out =
    rw c.split_first.ensures.rest (Run-opening c.args.parens c.args.keep quote c.args.text.now c.args.line _ _ at.0 at.1 (rw (← c.split_first.ensures.front) c.push_quoting.ensures)) in
    let shorter : length c.split_first.result.1.now < length c.args.text.now = rw c.split_first.ensures.rest (drop-shorter c.args.text.now (begins-filled (is_byte quote) c.args.text.now at.1)) in
    MatchResult-weaker c.push_quoted.result (c.push_quoted.ensures c.args.parens)
    (λ read run. (Run-then opening run, omega (arith, Run-shrinks run, shorter)))
    (λ fault broken. Broken-then opening broken)

pub returns-in-None-first_quote : goal.returns-in-None-first_quote
returns-in-None-first_quote c =
    let backslash : begins is_backslash c.args.text.now ≡ false = sym c.begins_backslash.ensures ∙ c.if-begins_backslash.false in
    let first : begins (is_ordinary c.args.parens) c.args.text.now ≡ true = ordinary-first c.args.parens c.args.text.now c.requires.begins backslash c.in-None-first_quote.ensures in
    (Run-ordinary c.args.parens c.args.keep c.args.text.now _ _ c.args.line _ _ c.split_ordinary.ensures c.push.ensures, Splits-shorter (is_ordinary c.args.parens) c.args.text.now _ _ c.split_ordinary.ensures first)
