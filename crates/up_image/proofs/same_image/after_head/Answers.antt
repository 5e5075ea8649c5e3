use Rattle.std.proofs.Common.{◌≡◌, ◌++◌, List, MatchOption, ℕ, length, ap, subst, ◌∙◌}
use Rattle.up_image.specs.Image.{head_of}
use Rattle.up_image.proofs.same_image.after_head.Goals as goal

pub returns : goal.returns
returns c =
    let bytes = c.args.bytes.now in
    let head = head_of c.args.version c.args.jobs (length bytes) in
    let written : c.as_slice.result.now ≡ head = c.as_slice.ensures.value ∙ c.in_ok-put_head.ensures ∙ ap (λ b. b ++ head) c.new-head.ensures.items in
    subst (λ (part : List ℕ). MatchOption c.after.result ((back : List ℕ) → bytes ≡ part ++ back → ⊥) (λ back. bytes ≡ part ++ back.now)) written c.after.ensures
