use Rattle.std.proofs.lemmas.Str.{is_utf8-from_IsUtf8}
use Rattle.up_value.proofs.Texts.{is_utf8-false}
use Rattle.up_value.proofs.text.as_text.Goals as goal

pub returns-in-Ok-clause-test : goal.returns-in-Ok-clause-test
returns-in-Ok-clause-test c = is_utf8-from_IsUtf8 _ c.in-Ok.ensures.cases.1

pub returns-in-Err-clause-test : goal.returns-in-Err-clause-test
returns-in-Err-clause-test c = is_utf8-false _ c.in-Err.ensures.cases.0
