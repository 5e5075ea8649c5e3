use Rattle.std.proofs.Common.{rules, ◌≡◌, ◌++◌, ◌+◌, ◌-◌, ◌∙◌, ap, sym, drop, arith, true, false}
use Rattle.std.specs.Prelude.{codes}
use Rattle.std.proofs.lemmas.Result.{on_ok_weaker}
use Rattle.up_script.specs.Written.{is_turn, script_after, script_of, statement, turns_line}
use Rattle.up_script.proofs.Written.{all_said, line_more, statement_more, turn_more}
use Rattle.up_script.proofs.inputs.push_inputs.Goals as goal
use Rattle.up_script.proofs.inputs.push_inputs.Goals.{then-not-is_turn+in_ok-push_turns+in_ok-push_statement+in_ok-push, else-not-is_turn}

pub loop-i-preserved : goal.loop-i-preserved
loop-i-preserved c = elim c.if-not-is_turn.branch [
  | then-not-is_turn+in_ok-push_turns+in_ok-push_statement+in_ok-push w ↦
      let other : is_turn c.input_at-input.result.now ≡ false = search rules in
      let more = statement_more c.args.inputs.now c.loop-i.i (c.loop-i.i - c.loop-i.begun) c.input_at-input.result.now c.input_at-input.ensures other in
      let text : c.if-not-is_turn.text.items ≡ ((c.loop-i.text.items ++ turns_line (c.loop-i.i - c.loop-i.begun)) ++ statement c.input_at-input.result.now) ++ codes "\n" =
      ap (λ t. t.items) w.text-is ∙ w.in_ok-push.ensures
      ∙ ap (λ xs. xs ++ codes "\n") (w.in_ok-push_statement.ensures ∙ ap (λ xs. xs ++ statement c.input_at-input.result.now) w.in_ok-push_turns.ensures) in
      let none : c.loop-i.i + 1 - c.if-not-is_turn.begun ≡ 0 = omega (arith, w.begun-is) in
      (omega (arith, w.begun-is), rw text (rw none (line_more c.loop-i.text.items (turns_line (c.loop-i.i - c.loop-i.begun)) (statement c.input_at-input.result.now) (script_after (c.loop-i.i - c.loop-i.begun) (drop c.loop-i.i c.args.inputs.now)) (script_after 0 (drop (c.loop-i.i + 1) c.args.inputs.now)) (c.args.text.now.items ++ script_of c.args.inputs.now) more c.loop-i.invariant.1)))
  | else-not-is_turn w ↦
      let turn : is_turn c.input_at-input.result.now ≡ true = search rules in
      let more = turn_more c.args.inputs.now c.loop-i.i c.loop-i.begun c.input_at-input.result.now c.loop-i.invariant.0 c.input_at-input.ensures turn in
      (omega (arith, w.begun-is, c.loop-i.invariant.0), rw w.text-is (rw w.begun-is (rw (sym more) c.loop-i.invariant.1)))
]

pub returns : goal.returns
returns c =
    let said = all_said c.args.inputs.now c.loop-i.i c.loop-i.begun c.loop-i-test.false c.loop-i.auto.i-end in
    on_ok_weaker c.push_turns-2.result (λ text. text ∙ ap (λ more. c.loop-i.text.items ++ more) (sym said) ∙ c.loop-i.invariant.1) c.push_turns-2.ensures
