use Rattle.std.proofs.Common.{◌≡◌, codes, sym, ◌∙◌, true, false, refl}
use Rattle.std.specs.Str.{bytes_eq}
use Rattle.up_text.proofs.Scripting.{end-line, and-false}
use Rattle.up_text.proofs.lexer.script.is_end_line.Goals as goal

pub returns-then-not-is_end : goal.returns-then-not-is_end
returns-then-not-is_end c =
    let is = end-line c.args.line.now _ _ _ _ _ _ _ _ c.split_line.ensures c.next_word.ensures.begins c.next_word-2.ensures.begins c.next_word-3.ensures.begins in
    let first : bytes_eq c.next_word.result.0.now (codes "end") ≡ false = sym c.is_end.ensures ∙ c.if-not-is_end.true in
    sym (is ∙ rw first refl)

pub returns-then-not-is_script : goal.returns-then-not-is_script
returns-then-not-is_script c =
    let is = end-line c.args.line.now _ _ _ _ _ _ _ _ c.split_line.ensures c.next_word.ensures.begins c.next_word-2.ensures.begins c.next_word-3.ensures.begins in
    let second : bytes_eq c.next_word-2.result.0.now (codes "script") ≡ false = sym c.is_script.ensures ∙ c.if-not-is_script.true in
    sym (is ∙ rw second (and-false _))

pub returns : goal.returns
returns c =
    let is = end-line c.args.line.now _ _ _ _ _ _ _ _ c.split_line.ensures c.next_word.ensures.begins c.next_word-2.ensures.begins c.next_word-3.ensures.begins in
    let first : bytes_eq c.next_word.result.0.now (codes "end") ≡ true = sym c.is_end.ensures ∙ c.if-not-is_end.false in
    let second : bytes_eq c.next_word-2.result.0.now (codes "script") ≡ true = sym c.is_script.ensures ∙ c.if-not-is_script.false in
    c.may_follow.ensures ∙ sym (is ∙ rw (first, second) refl)
