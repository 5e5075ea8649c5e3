use Rattle.std.proofs.Common.{◌≡◌, ◌++◌, ◌∙◌, sym, true, false, cond, List, [], ◌∷◌, ℕ, append-nil, refl}
use Rattle.up_text.proofs.GapTexts.{Between-made}
use Rattle.up_text.proofs.Runs.{Holds-same}
use Rattle.up_text.specs.Lexer.{begins_joint, is_line_end, Holds}
use Rattle.up_text.proofs.lexer.command.push_gap.Goals.{then-begins_joint, else-begins_joint, then-not-is_line_end, else-not-is_line_end}
use Rattle.up_text.proofs.lexer.command.push_gap.Goals as goal

pub returns : goal.returns
returns c =
    let rest : List ℕ = c.split_blanks.result.1.now in
    let after : List ℕ = c.after_gap-reached.result.1.now in
    let between : c.if-begins_joint.between.now ≡ cond (begins_joint rest) (32 ∷ []) c.split_blanks.result.0.now =
    elim c.if-begins_joint.branch [
      | then-begins_joint w ↦ let joint : begins_joint rest ≡ true = sym c.begins_joint.ensures ∙ w.if-begins_joint.true in rw (w.between-is, joint) refl
      | else-begins_joint w ↦ let joint : begins_joint rest ≡ false = sym c.begins_joint.ensures ∙ w.if-begins_joint.false in rw (w.between-is, joint) refl
    ] in
    let pushed : (held : List ℕ) → Holds c.args.out.now held → Holds c.if-not-is_line_end.out (held ++ cond (is_line_end after) [] c.if-begins_joint.between.now) =
    elim c.if-not-is_line_end.branch [
      | then-not-is_line_end w ↦ λ held holds.
          let within : is_line_end after ≡ false = sym c.is_line_end.ensures ∙ w.if-not-is_line_end.true in
          rw (w.out-is, within) (w.push.ensures held holds)
      | else-not-is_line_end w ↦ λ held holds.
          let end : is_line_end after ≡ true = sym c.is_line_end.ensures ∙ w.if-not-is_line_end.false in
          rw (w.out-is, end) (Holds-same c.args.out.now held (held ++ []) (sym (append-nil held)) holds)
    ] in
    Between-made c.args.text.now _ _ _ c.args.line _ _ _ _ c.split_blanks.ensures (c.after_gap-reached.ensures.run false) c.after_gap-reached.ensures.ends between pushed
