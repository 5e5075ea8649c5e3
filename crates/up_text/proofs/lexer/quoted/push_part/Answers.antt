use Rattle.std.proofs.Common.{◌≡◌, true, false, ◌∙◌, sym}
use Rattle.up_text.proofs.Runs.{fold-split, literal-first, Splits-shorter, Run-escape_quoted, Broken-escape, Run-literal}
use Rattle.up_text.specs.Lexer.{begins_fold, is_literal}
use Rattle.up_text.specs.Tokens.{is_blank, is_backslash}
use Rattle.up_pattern.specs.Lists.{begins}
use Rattle.up_text.proofs.lexer.quoted.push_part.Goals as goal

pub returns-in-Some-clause-means : goal.returns-in-Some-clause-means
returns-in-Some-clause-means c = λ parens.
    let apart : begins_fold c.args.text.now ≡ false = sym c.begins_fold.ensures ∙ c.if-begins_fold.false in
    Run-escape_quoted parens c.args.keep c.args.quote c.args.joined c.args.text.now _ c.args.line _ _ c.requires.quoting c.in-Some.ensures (fold-split _ apart).1

pub returns-in-None-clause-means : goal.returns-in-None-clause-means
returns-in-None-clause-means c = λ parens. Broken-escape parens c.args.quote c.args.joined c.args.text.now c.requires.quoting c.in-None.ensures

pub returns-clause-means : goal.returns-clause-means
returns-clause-means c = λ parens.
    let apart : begins_fold c.args.text.now ≡ false = sym c.begins_fold.ensures ∙ c.if-begins_fold.false in
    let blank : begins is_blank c.args.text.now ≡ false = sym c.begins_blank.ensures ∙ c.if-begins_blank.false in
    let backslash : begins is_backslash c.args.text.now ≡ false = sym c.begins_backslash.ensures ∙ c.if-begins_backslash.false in
    let first : begins (is_literal c.args.quote) c.args.text.now ≡ true = literal-first c.args.quote c.args.text.now c.requires.filled c.requires.within (fold-split _ apart).0 blank backslash in
    Run-literal parens c.args.keep c.args.quote c.args.joined c.args.text.now _ _ c.args.line _ _ c.split_literal.ensures first c.push.ensures

pub returns-clause-shorter : goal.returns-clause-shorter
returns-clause-shorter c =
    let apart : begins_fold c.args.text.now ≡ false = sym c.begins_fold.ensures ∙ c.if-begins_fold.false in
    let blank : begins is_blank c.args.text.now ≡ false = sym c.begins_blank.ensures ∙ c.if-begins_blank.false in
    let backslash : begins is_backslash c.args.text.now ≡ false = sym c.begins_backslash.ensures ∙ c.if-begins_backslash.false in
    let first : begins (is_literal c.args.quote) c.args.text.now ≡ true = literal-first c.args.quote c.args.text.now c.requires.filled c.requires.within (fold-split _ apart).0 blank backslash in
    Splits-shorter (is_literal c.args.quote) c.args.text.now _ _ c.split_literal.ensures first
