use Rattle.std.proofs.Common.{◌≡◌, ◌++◌, append_assoc, ◌∙◌, ap}
use Rattle.up_stanza.specs.declared.fault.FaultCode.{FaultCode}
use Rattle.up_model.specs.Values.{Bytes}
use Rattle.up_print.specs.Advice.{advice_lines, bytes_at, indented, line_at, shown_line}
use Rattle.up_print.proofs.Joining.{success}
use Rattle.up_print.proofs.advice.push_advice.Goals as goal

-- both lines, one after the other
joined : (old middle new line wanted bytes said : Bytes) (code : FaultCode) → new ≡ middle ++ indented bytes → bytes ≡ said
    → middle ≡ old ++ shown_line code line → line ≡ wanted → new ≡ old ++ (shown_line code wanted ++ indented said)
joined old middle new line wanted bytes said code last is-said first is-wanted =
    last ∙ ap (λ it. middle ++ indented it) is-said ∙ ap (λ it. it ++ indented said) (first ∙ ap (λ it. old ++ shown_line code it) is-wanted)
    ∙ append_assoc old (shown_line code wanted) (indented said)

pub returns : goal.returns
unfolding advice_lines
returns c =
    let line : c.line_at-line.result.now ≡ line_at (bytes_at c.args.files.now c.args.fault.now.path) c.args.fault.now.line = cc in
    success c.push_indented.result (λ last. (
      c.sentence.result.now,
      joined _ _ _ _ _ _ _ c.args.fault.now.code last c.as_bytes.ensures.value c.in_ok-push_shown.ensures line,
    )) c.push_indented.ensures
