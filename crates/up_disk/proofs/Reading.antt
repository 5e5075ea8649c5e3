-- What was read of known bytes, and texts appended one after another.
use Rattle.std.proofs.Common.{◌≡◌, ◌∙◌, ℕ, List, [], ◌++◌, Option, None, Some, IfSome, option_map, take, refl}

pub read_front : (left : Option (List ℕ)) (old new : List ℕ) (limit : ℕ) → old ≡ [] → limit ≡ 67108865 → IfSome (option_map (take limit) left) (λ front. new ≡ old ++ front) → IfSome left (λ all. new ≡ take 67108865 all)
read_front None old new limit none size h = tt
read_front (Some all) old new limit none size h = let e : old ++ take limit all ≡ take 67108865 all = rw (none, size) refl in h ∙ e
