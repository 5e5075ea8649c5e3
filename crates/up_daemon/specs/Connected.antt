-- Which clients are connected.
use Rattle.std.specs.Prelude.{◌≡◌, ◌+◌, ℕ, ◌==◌, Bool, if◌then◌else◌, List, [], ◌∷◌}

-- how often a number is among these
abbrev pub count_of : ℕ → List ℕ → ℕ
count_of number [] = 0
count_of number (other ∷ numbers) = (if number == other then 1 else 0) + count_of number numbers

-- each number that is connected is among these once, and no other is
abbrev pub AreConnected : (ℕ → Bool) → (numbers : List ℕ) → Type 0
AreConnected connected numbers = (number : ℕ) → count_of number numbers ≡ (if connected number then 1 else 0)
