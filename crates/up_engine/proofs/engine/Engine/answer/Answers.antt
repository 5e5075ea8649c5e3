use Rattle.std.proofs.Common.{◌∙◌, Some, ap}
use Rattle.up_model.specs.declared.step.Step.TheVariants.{Gave}
use Rattle.up_engine.proofs.RunLemmas.{answered_expected, answered_unexpected}
use Rattle.up_engine.proofs.engine.Engine.answer.Goals as goal

pub returns-in-Ok-clause-meaning : goal.returns-in-Ok-clause-meaning
returns-in-Ok-clause-meaning c config chronicle stands =
    let means = c.in-Ok.ensures.meaning config chronicle stands in
    answered_expected _ c.step.new.self config chronicle c.args.given means.0 (c.new.ensures ∙ means.1) means.2

pub returns-in-Err-NotExpected-clause-meaning : goal.returns-in-Err-NotExpected-clause-meaning
returns-in-Err-NotExpected-clause-meaning c config chronicle stands =
    let clause = rw c.in-Err-NotExpected.field-0-is at c.in-Err-NotExpected.ensures.meaning in
    let means = clause config chronicle stands in
    answered_unexpected c.step.new.self config chronicle c.args.given means.0 means.1

pub returns-in-Err-Memory-clause-meaning : goal.returns-in-Err-Memory-clause-meaning
returns-in-Err-Memory-clause-meaning c config chronicle stands =
    let clause = rw c.in-Err-Memory.field-0-is at c.in-Err-Memory.ensures.meaning in
    clause config chronicle stands

pub returns-in-Err-Down-clause-meaning : goal.returns-in-Err-Down-clause-meaning
returns-in-Err-Down-clause-meaning c config chronicle stands =
    let clause = rw c.in-Err-Down.field-0-is at c.in-Err-Down.ensures.meaning in
    absurd (clause config chronicle stands)

pub returns-in-Ok-clause-free : goal.returns-in-Ok-clause-free
returns-in-Ok-clause-free c config chronicle stands free =
    let none = c.in-Ok.ensures.free config chronicle stands free in
    ap (λ outputs. Some (Gave outputs)) (c.new.ensures ∙ cc)

pub returns-in-Err-NotExpected-clause-free : goal.returns-in-Err-NotExpected-clause-free
returns-in-Err-NotExpected-clause-free c config chronicle stands free =
    let none = c.in-Err-NotExpected.ensures.free config chronicle stands free in absurd cc

pub returns-in-Err-Memory-clause-free : goal.returns-in-Err-Memory-clause-free
returns-in-Err-Memory-clause-free c config chronicle stands free =
    let none = c.in-Err-Memory.ensures.free config chronicle stands free in absurd cc

pub returns-in-Err-Down-clause-free : goal.returns-in-Err-Down-clause-free
returns-in-Err-Down-clause-free c config chronicle stands free =
    let none = c.in-Err-Down.ensures.free config chronicle stands free in absurd cc
