use Rattle.std.proofs.Common.{◌≡◌, ◌∙◌, sym, length, drop}
use Rattle.std.proofs.lemmas.Bool.{eqb-true}
use Rattle.up_text.proofs.Runs.{begins-low, backslash-low, backslash-alone, Escape-made}
use Rattle.up_text.specs.Tokens.{is_backslash}
use Rattle.up_text.proofs.lexer.quoted.push_escape.Goals as goal

pub split_first-requires : goal.split_first-requires
split_first-requires c = begins-low is_backslash c.args.text.now backslash-low c.requires

pub returns-then-is_empty : goal.returns-then-is_empty
returns-then-is_empty c =
    let none : length (drop 1 c.args.text.now) ≡ 0 = rw (← c.split_first.ensures.rest) (eqb-true _ 0 (sym c.is_empty.ensures ∙ c.if-is_empty.true)) in
    backslash-alone c.args.text.now c.requires none

pub returns : goal.returns
returns c = Escape-made c.args.keep c.args.text.now _ _ _ _ _ _ _ c.requires c.split_first.ensures.front c.split_first.ensures.rest c.split_char.ensures c.push_quoting.ensures c.push.ensures
