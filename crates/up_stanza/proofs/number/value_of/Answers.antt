use Rattle.std.proofs.Common.{sym}
use Rattle.up_stanza.proofs.Numbers.{value_ok, value_err, value_none}
use Rattle.up_stanza.proofs.number.value_of.Goals as goal

pub returns-then-not-are_digits : goal.returns-then-not-are_digits
returns-then-not-are_digits c = sym (value_none c.args.text.now (sym c.if-not-are_digits.ensures))

pub returns-in-Ok : goal.returns-in-Ok
returns-in-Ok c = sym (value_ok c.args.text.now c.in-Ok.number (sym c.if-not-are_digits.ensures) c.in-Ok.ensures.value.0)

pub returns-in-Err : goal.returns-in-Err
returns-in-Err c = sym (value_err c.args.text.now (sym c.if-not-are_digits.ensures) c.in-Err.ensures.value.0)
