-- How many of a list's items pass, one item more.
use Rattle.std.proofs.Common.{◌≡◌, ◌+◌, ◌<◌, ℕ, Bool, true, false, List, length, take, get_or, ◌∙◌, sym, ap, arith}
use Rattle.std.specs.List.{count_by}
use Rattle.std.proofs.lemmas.List.Sums.{count_by_more_yes, count_by_more_no}
use Rattle.up_model.specs.declared.input.Input.{Input}
use Rattle.up_run.specs.Faults.{is_refusal, number}

pub counted_more : (xs : List Input) (i : ℕ) (x : Input) → i < length xs → x ≡ get_or xs i x → count_by is_refusal (take (i + 1) xs) ≡ count_by is_refusal (take i xs) + number (is_refusal x)
counted_more xs i x within here = by_case (is_refusal x) (ap is_refusal (sym here))
  where
    by_case : (b : Bool) → is_refusal (get_or xs i x) ≡ b → count_by is_refusal (take (i + 1) xs) ≡ count_by is_refusal (take i xs) + number b
    by_case true passes = count_by_more_yes is_refusal xs i x within passes
    by_case false fails = count_by_more_no is_refusal xs i x within fails ∙ omega arith
