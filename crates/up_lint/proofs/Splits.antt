-- The first piece of a text, and the others.
use Rattle.std.proofs.Common.{◌≡◌, ℕ, ◌<◌, ◌≤◌, Bool, List, [], ◌∷◌, length, arith}
use Rattle.std.specs.List.{after_first, before_first, position_or_len, slice_split}
use Rattle.std.proofs.lemmas.List.Splits.{slice_split_first, slice_split_none}
use Rattle.std.proofs.lemmas.List.Sums.{fails_before_first}

pub split_more : (test : ℕ → Bool) (text : List ℕ) → position_or_len test text < length text → slice_split test text ≡ before_first test text ∷ slice_split test (after_first test text)
split_more test text more = slice_split_first test text 0 more

pub split_none : (test : ℕ → Bool) (text : List ℕ) → length text ≤ position_or_len test text → slice_split test text ≡ text ∷ []
split_none test text none = slice_split_none test text (λ k d below. fails_before_first test text k d (omega (arith, none, below)))
