use Rattle.std.proofs.Common.{◌≡◌, ◌∙◌, ap, string_bytes}
use Rattle.std.proofs.lemmas.Str.{IsUtf8-string_bytes}
use Rattle.up_wire.proofs.Texts.{is_text}
use Rattle.up_wire.proofs.answers.text_of.Goals as goal

pub returns-in-Ok-clause-text : goal.returns-in-Ok-clause-text
returns-in-Ok-clause-text c =
    let same : string_bytes c.in-Ok.text ≡ c.args.bytes.now.items = ap (λ v. v.items) (c.in-Ok.ensures.ok ∙ c.replace.ensures.value) in
    (rw (← same) (is_text (string_bytes c.in-Ok.text) (IsUtf8-string_bytes c.in-Ok.text)), c.new-in-Ok.ensures ∙ same, ap (λ v. v.items) c.replace.ensures.after ∙ c.new.ensures.items)
