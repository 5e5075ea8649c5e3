-- Of jobs whose names are apart at most one has a name.
use Rattle.std.proofs.Common.{◌≡◌, ◌≤◌, Bool, true, false, ◌||◌, List, [], ◌∷◌, map, length, if◌then◌else◌}
use Rattle.std.proofs.Common.{bytes_eq, refl, sym, ◌∙◌, ap, arith}
use Rattle.std.specs.List.{list_any}
use Rattle.up_conf.specs.declared.job.JobDef.{JobDef}
use Rattle.up_model.specs.Values.{Bytes}
use Rattle.up_model.proofs.Places.{bytes_same, bytes_refl}
use Rattle.up_isolation.specs.Views.{jobs_called}

-- no name stands twice
abbrev pub AreApart : List JobDef → Type 0
AreApart [] = Unit {0}
AreApart (def ∷ js) =
    (list_any (bytes_eq def.name) (map (λ (job : JobDef). job.name) js) ≡ false) × AreApart js

or-left : (a b : Bool) → (a || b) ≡ false → a ≡ false
or-left true b h = absurd (cc)
or-left false b h = refl

or-right : (a b : Bool) → (a || b) ≡ false → b ≡ false
or-right true b h = absurd (cc)
or-right false b h = h

none-called : (name job : Bytes) (js : List JobDef) → name ≡ job
    → list_any (bytes_eq name) (map (λ (its : JobDef). its.name) js) ≡ false → jobs_called job js ≡ []
none-called name job [] same none = refl
none-called name job (def ∷ js) same none =
    by_case (bytes_eq def.name job) refl (or-left (bytes_eq name def.name) _ none)
    (none-called name job js same (or-right (bytes_eq name def.name) _ none))
  where
    by_case : (b : Bool) → bytes_eq def.name job ≡ b → bytes_eq name def.name ≡ false
        → jobs_called job js ≡ [] → (if b then def ∷ jobs_called job js else jobs_called job js) ≡ []
    by_case true is other ih =
        let there : bytes_eq name def.name ≡ true =
        ap (bytes_eq name) (bytes_same def.name job is ∙ sym same) ∙ bytes_refl name in
        absurd (cc)
    by_case false is other ih = ih

pub one-called : (job : Bytes) (js : List JobDef) → AreApart js → length (jobs_called job js) ≤ 1
one-called job [] apart = omega arith
one-called job (def ∷ js) apart = by_case (bytes_eq def.name job) refl (one-called job js apart.1)
  where
    by_case : (b : Bool) → bytes_eq def.name job ≡ b → length (jobs_called job js) ≤ 1
        → length (if b then def ∷ jobs_called job js else jobs_called job js) ≤ 1
    by_case true is ih =
        let none : length (jobs_called job js) ≡ 0 = ap (λ (ks : List JobDef). length ks)
        (none-called def.name job js (bytes_same def.name job is) apart.0) in
        omega (arith, none)
    by_case false is ih = ih
