-- Bytes that were written one part after another.
use Rattle.std.proofs.Common.{◌≡◌, ◌∙◌, sym, ap, ℕ, ◌+◌, ◌-◌, ◌++◌, List, Option, None, Some, length, take, drop, append_assoc}
use Rattle.std.specs.Io.KnownBytes.{Appends}
use Rattle.std.proofs.lemmas.List.{drop-drop, take_rest}
use Rattle.std.proofs.Math.Seq.{take-add}

-- some more were
pub some_more : (old mid new : Option (List ℕ)) (bytes rest : List ℕ) (count more : ℕ) → rest ≡ drop count bytes
    → Appends old mid (take count bytes) → Appends mid new (take more rest) → Appends old new (take (count + more) bytes)
some_more None mid new bytes rest count more is first then = tt
some_more (Some written) None new bytes rest count more is first then = absurd first
some_more (Some written) (Some part) None bytes rest count more is first then = absurd then
some_more (Some written) (Some part) (Some all) bytes rest count more is first then =
    then ∙ ap (λ those. those ++ take more rest) first ∙ append_assoc written (take count bytes) (take more rest)
    ∙ ap (λ those. written ++ (take count bytes ++ take more those)) is ∙ ap (λ those. written ++ those) (sym (take-add count more bytes))

-- the first bytes were written, and these are left
abbrev pub Left : (old new : Option (List ℕ)) → (bytes rest : List ℕ) → Type 0
Left old new bytes rest = (count : ℕ) × (rest ≡ drop count bytes) × Appends old new (take count bytes)

pub goes_on : (old mid new : Option (List ℕ)) (bytes rest : List ℕ) (more : ℕ) → Left old mid bytes rest → Appends mid new (take more rest)
    → Left old new bytes (take (length rest - more) (drop more rest))
goes_on old mid new bytes rest more (count, is, first) then =
    (count + more, take_rest rest more ∙ ap (λ those. drop more those) is ∙ drop-drop more count bytes, some_more old mid new bytes rest count more is first then)
