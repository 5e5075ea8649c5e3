-- That an input is given changes nothing of what is held.
use Rattle.std.proofs.Common.{◌≡◌, ℕ, List, [], ◌∷◌, ◌++◌, refl, ap}
use Rattle.up_model.specs.declared.input.Input.{Input}
use Rattle.up_model.specs.Chronicle.{Chronicle, Given, StopOn}
use Rattle.up_model.specs.Configuration.{Configuration}
use Rattle.up_model.specs.Files.{names_in_order}
use Rattle.up_model.specs.Held.{held_by_instances, held_by_jobs, has, is_held}
use Rattle.up_model.specs.Instances.{Instance, instances_of}
use Rattle.up_model.specs.Readings.{holders}
use Rattle.up_model.specs.Seen.{seen, kept}
use Rattle.up_model.specs.Values.{Bytes}

instances-given : (config : Configuration) (xs : List Instance) (given : Input) (c : Chronicle) → held_by_instances config xs (Given given ∷ c) ≡ held_by_instances config xs c
instances-given config [] given c = refl
instances-given config (x ∷ xs) given c = ap (λ rest. (kept x.file.stop_on (seen config (StopOn x.place) c) ++ holders x.place c) ++ rest) (instances-given config xs given c)

jobs-given : (config : Configuration) (names : List Bytes) (given : Input) (c : Chronicle) → held_by_jobs config names (Given given ∷ c) ≡ held_by_jobs config names c
jobs-given config [] given c = refl
jobs-given config (name ∷ names) given c =
    by_parts _ _ _ _ _ (instances-given config (instances_of name c) given c) (jobs-given config names given c)
  where
    by_parts : (kept xs ys zs ws : List ℕ) → xs ≡ ys → zs ≡ ws → (kept ++ xs) ++ zs ≡ (kept ++ ys) ++ ws
    by_parts kept xs ys zs ws e f = cc

pub held-given : (config : Configuration) (event : ℕ) (given : Input) (c : Chronicle) → is_held config event (Given given ∷ c) ≡ is_held config event c
held-given config event given c = ap (has event) (jobs-given config (names_in_order config c) given c)
