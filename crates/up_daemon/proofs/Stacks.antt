-- A stack of orders, whose last is the next.
use Rattle.std.proofs.Common.{◌≡◌, ◌∙◌, ◌++◌, List, reverse, ap}
use Rattle.std.proofs.lemmas.List.{reverse-append, reverse-reverse}
use Rattle.up_model.specs.declared.output.Output.{Output}

-- outputs that are pushed in reverse order are the next to be taken
pub reverse_pushed : (stack outputs : List Output) → reverse (stack ++ reverse outputs) ≡ outputs ++ reverse stack
reverse_pushed stack outputs = reverse-append stack (reverse outputs) ∙ ap (λ first. first ++ reverse stack) (reverse-reverse outputs)
