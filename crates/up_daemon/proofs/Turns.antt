-- Whether a turn would touch an event.
use Rattle.std.proofs.Common.{◌≡◌, ◌≢◌, ◌∙◌, sym, Bool, true, false, Option, None, Some, is_some, refl}
use Rattle.up_model.specs.Chronicle.{Chronicle}
use Rattle.up_model.specs.Configuration.{Configuration}
use Rattle.up_model.specs.Due.{turn_event}
use Rattle.up_model.specs.Loads.{in_force}
use Rattle.up_model.specs.Queue.{queue}

not_some : {A : Type 0} (found : Option A) → is_some found ≡ false → found ≡ None
not_some None is = refl
not_some (Some event) is = cc

not_none : {A : Type 0} (found : Option A) → is_some found ≡ true → found ≢ None
not_none None is none = cc
not_none (Some event) is none = cc

pub none_is : (config : Configuration) (c : Chronicle) (has : Bool) → has ≡ is_some (turn_event (in_force config c) (queue c) c) → has ≡ false
    → turn_event (in_force config c) (queue c) c ≡ None
none_is config c has is none = not_some (turn_event (in_force config c) (queue c) c) (sym is ∙ none)

pub some_is : (config : Configuration) (c : Chronicle) (has : Bool) → has ≡ is_some (turn_event (in_force config c) (queue c) c) → has ≡ true
    → turn_event (in_force config c) (queue c) c ≢ None
some_is config c has is some = not_none (turn_event (in_force config c) (queue c) c) (sym is ∙ some)
