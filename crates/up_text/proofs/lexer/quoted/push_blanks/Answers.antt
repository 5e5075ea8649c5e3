use Rattle.std.proofs.Common.{◌≡◌, true, ◌||◌, sym, ◌∙◌}
use Rattle.std.proofs.lemmas.Bool.{or_from, or_left, or_right}
use Rattle.up_text.proofs.Runs.{Run-blanks_folded, Run-blanks_kept}
use Rattle.up_text.specs.Lexer.{begins_fold}
use Rattle.up_text.proofs.lexer.quoted.push_blanks.Goals as goal
use Rattle.up_text.proofs.lexer.quoted.push_blanks.Goals.{else-not-joined-via-then-not-joined+else-not-begins_fold, else-not-joined-via-else-not-joined}

pub returns-then-not-begins_fold-clause-run : goal.returns-then-not-begins_fold-clause-run
returns-then-not-begins_fold-clause-run c = λ parens keep quote line quoting.
    Run-blanks_kept parens keep quote c.args.joined _ _ _ line _ _ quoting c.split_blanks.ensures (or_from _ _ c.if-not-joined.true (sym c.begins_fold.ensures ∙ c.if-not-begins_fold.true)) c.push.ensures

pub returns-else-not-joined-clause-run : goal.returns-else-not-joined-clause-run
returns-else-not-joined-clause-run c = λ parens keep quote line quoting.
    let folds : (c.args.joined || begins_fold c.split_blanks.result.1.now) ≡ true =
    elim c.else-not-joined.branch [
      | else-not-joined-via-then-not-joined+else-not-begins_fold w ↦ or_right _ _ (sym w.begins_fold.ensures ∙ w.if-not-begins_fold.false)
      | else-not-joined-via-else-not-joined w ↦ or_left _ _ w.if-not-joined.false
    ] in
    Run-blanks_folded parens keep quote c.args.joined _ _ _ line _ quoting c.split_blanks.ensures folds
