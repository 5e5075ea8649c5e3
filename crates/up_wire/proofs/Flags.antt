-- A flag, and what was read of it.
use Rattle.std.proofs.Common.{◌≡◌, Bool, true, false, Option, None, Some, refl, sym, ap, codes}
use Rattle.std.specs.Option.{option_map_or}
use Rattle.std.specs.Prelude.{unwrap_or}
use Rattle.std.specs.Str.{bytes_eq}
use Rattle.std.specs.Str.Parse.{ParsesBool}
use Rattle.std.proofs.lemmas.Bool.{false_from_ne_true}
use Rattle.std.proofs.lemmas.Slice.Eq.{bytes_eq-Decides}
use Rattle.clap.specs.Matches.{ReadsOne}
use Rattle.up_model.specs.Values.{Bytes}

-- a flag is set exactly if its text is `true`
pub flag_is : (E : Type 0) (read : Option Bytes) (found : Option Bool) → (read ≡ None → found ≡ None) → ((t : Bytes) → read ≡ Some t → ReadsOne {T = Bool} {E = E} ParsesBool t found) → unwrap_or found false ≡ option_map_or (λ text. bytes_eq text (codes "true")) read false
flag_is E None found none value = ap (λ f. unwrap_or f false) (none refl)
flag_is E (Some t) None none value =
    let refused = (value t refl).1 in
    sym (false_from_ne_true (bytes_eq t (codes "true")) (λ same. refused.0 ((bytes_eq-Decides t (codes "true")).0 same)))
flag_is E (Some t) (Some true) none value = sym ((bytes_eq-Decides t (codes "true")).1 (value t refl))
flag_is E (Some t) (Some false) none value = sym (ap (λ text. bytes_eq text (codes "true")) (value t refl))
