-- The settings, exports and normal exits of a job are apart, and few.
use Rattle.std.proofs.Common.{◌≡◌, ℕ, ◌+◌, ◌≤◌, Bool, true, false, cond, not, List, [], ◌∷◌, ◌++◌, length, map, refl, sym, ap, ◌∙◌, arith, length-append, ◌==◌}
use Rattle.std.specs.List.{list_all, list_any}
use Rattle.std.specs.Str.{bytes_eq}
use Rattle.std.specs.Cmp.{both_ways}
use Rattle.std.proofs.lemmas.Bool.{and_from, and_parts, or_parts, not-true, not_from_false, eqb-true, eq-eqb}
use Rattle.std.proofs.lemmas.List.Folds.{list_all-append, list_any-append}
use Rattle.std.proofs.lemmas.Slice.Eq.{bytes_eq-Decides}
use Rattle.up_text.specs.Names.{is_key}
use Rattle.up_stanza.specs.declared.exit.Exit.{Exit}
use Rattle.up_stanza.specs.declared.exit.Exit.TheVariants as exit
use Rattle.up_stanza.specs.declared.setting.Setting.{Setting}
use Rattle.up_stanza.specs.declared.stanza.Stanza.{Stanza}
use Rattle.up_stanza.specs.declared.stanza.Stanza.TheVariants.{Env, Export, NormalExit}
use Rattle.up_stanza.specs.Confs.{keys_set, keys_exported, total}
use Rattle.up_conf.specs.Jobs.{put, env_with, export_with, normal_with, with_new_item, with_new_items, fold_stanzas}
use Rattle.up_stanza.specs.Exits.{same_exit}
use Rattle.up_image.specs.Compiling.{has_twice}
use Rattle.up_image.specs.Definable.{is_setting, is_exit, are_apart}
use Rattle.up_image.proofs.Repeats.{has_twice-push, or-false}

abbrev keys_in : List Setting → List (List ℕ)
keys_in settings = map (λ setting. setting.key) settings

-- settings

put_all : (setting : Setting) (settings : List Setting) → is_setting setting ≡ true → list_all is_setting settings ≡ true → list_all is_setting (put setting settings) ≡ true
put_all setting [] one all = and_from _ _ one refl
put_all setting (other ∷ others) one all = by_case (bytes_eq other.key setting.key) (put_all setting others one parts.1)
  where
    parts : (is_setting other ≡ true) × (list_all is_setting others ≡ true)
    parts = and_parts (is_setting other) (list_all is_setting others) all

    by_case : (b : Bool) → list_all is_setting (put setting others) ≡ true → list_all is_setting (cond b (setting ∷ others) (other ∷ put setting others)) ≡ true
    by_case true more = and_from _ _ one parts.1
    by_case false more = and_from _ _ parts.0 more

put_short : (setting : Setting) (settings : List Setting) → length (put setting settings) ≤ length settings + 1
put_short setting [] = omega arith
put_short setting (other ∷ others) = by_case (bytes_eq other.key setting.key) (put_short setting others)
  where
    by_case : (b : Bool) → length (put setting others) ≤ length others + 1 → length (cond b (setting ∷ others) (other ∷ put setting others)) ≤ length (other ∷ others) + 1
    by_case true more = omega arith
    by_case false more = omega (arith, more)

-- a key that is among none and isn't the one that is put
put_absent : (key : List ℕ) (setting : Setting) (settings : List Setting) → bytes_eq key setting.key ≡ false → list_any (bytes_eq key) (keys_in settings) ≡ false → list_any (bytes_eq key) (keys_in (put setting settings)) ≡ false
put_absent key setting [] other none = or-false _ _ other refl
put_absent key setting (first ∷ others) other none = by_case (bytes_eq first.key setting.key) (put_absent key setting others other parts.1)
  where
    parts : (bytes_eq key first.key ≡ false) × (list_any (bytes_eq key) (keys_in others) ≡ false)
    parts = or_parts (bytes_eq key first.key) (list_any (bytes_eq key) (keys_in others)) none

    by_case : (b : Bool) → list_any (bytes_eq key) (keys_in (put setting others)) ≡ false → list_any (bytes_eq key) (keys_in (cond b (setting ∷ others) (first ∷ put setting others))) ≡ false
    by_case true more = or-false _ _ other parts.1
    by_case false more = or-false _ _ parts.0 more

put_apart : (setting : Setting) (settings : List Setting) → has_twice (keys_in settings) ≡ false → has_twice (keys_in (put setting settings)) ≡ false
put_apart setting [] apart = refl
put_apart setting (first ∷ others) apart = by_case (bytes_eq first.key setting.key) refl (put_apart setting others parts.1)
  where
    parts : (list_any (bytes_eq first.key) (keys_in others) ≡ false) × (has_twice (keys_in others) ≡ false)
    parts = or_parts (list_any (bytes_eq first.key) (keys_in others)) (has_twice (keys_in others)) apart

    by_case : (b : Bool) → bytes_eq first.key setting.key ≡ b → has_twice (keys_in (put setting others)) ≡ false → has_twice (keys_in (cond b (setting ∷ others) (first ∷ put setting others))) ≡ false
    by_case true same more =
        let is : first.key ≡ setting.key = (bytes_eq-Decides first.key setting.key).0 same in
        or-false _ _ (ap (λ key. list_any (bytes_eq key) (keys_in others)) (sym is) ∙ parts.0) parts.1
    by_case false other more = or-false _ _ (put_absent first.key setting others other parts.0) more

-- lists with new items

new_all : {X : Type 0} (same : X → X → Bool) (test : X → Bool) (xs : List X) (x : X) → test x ≡ true → list_all test xs ≡ true → list_all test (with_new_item same xs x) ≡ true
new_all same test xs x one all = by_case (list_any (same x) xs)
  where
    by_case : (b : Bool) → list_all test (cond b xs (xs ++ x ∷ [])) ≡ true
    by_case true = all
    by_case false = list_all-append test xs (x ∷ []) ∙ and_from _ _ all (and_from _ _ one refl)

pub news_all : {X : Type 0} (same : X → X → Bool) (test : X → Bool) (xs ys : List X) → list_all test ys ≡ true → list_all test xs ≡ true → list_all test (with_new_items same xs ys) ≡ true
news_all same test xs [] ones all = all
news_all same test xs (y ∷ ys) ones all =
    let parts = and_parts (test y) (list_all test ys) ones in
    news_all same test (with_new_item same xs y) ys parts.1 (new_all same test xs y parts.0 all)

new_short : {X : Type 0} (same : X → X → Bool) (xs : List X) (x : X) → length (with_new_item same xs x) ≤ length xs + 1
new_short same xs x = by_case (list_any (same x) xs)
  where
    by_case : (b : Bool) → length (cond b xs (xs ++ x ∷ [])) ≤ length xs + 1
    by_case true = omega arith
    by_case false = omega (arith, length-append xs (x ∷ []))

news_short : {X : Type 0} (same : X → X → Bool) (xs ys : List X) → length (with_new_items same xs ys) ≤ length xs + length ys
news_short same xs [] = omega arith
news_short same xs (y ∷ ys) = omega (arith, news_short same (with_new_item same xs y) ys, new_short same xs y)

keys_apart : (xs ys : List (List ℕ)) → has_twice xs ≡ false → has_twice (with_new_items bytes_eq xs ys) ≡ false
keys_apart xs [] apart = apart
keys_apart xs (y ∷ ys) apart = keys_apart (with_new_item bytes_eq xs y) ys (by_case (list_any (bytes_eq y) xs) refl)
  where
    by_case : (b : Bool) → list_any (bytes_eq y) xs ≡ b → has_twice (cond b xs (xs ++ y ∷ [])) ≡ false
    by_case true had = apart
    by_case false new = has_twice-push xs y apart new

-- exits

nat_flip : (a b : ℕ) → (a == b) ≡ (b == a)
nat_flip a b = both_ways _ _ (λ e. eq-eqb b a (sym (eqb-true a b e))) (λ e. eq-eqb a b (sym (eqb-true b a e)))

same_flip : (one other : Exit) → same_exit one other ≡ same_exit other one
same_flip (exit.Status a) (exit.Status b) = nat_flip a b
same_flip (exit.Status a) (exit.Signal b) = refl
same_flip (exit.Signal a) (exit.Status b) = refl
same_flip (exit.Signal a) (exit.Signal b) = nat_flip a b

apart_push : (xs : List Exit) (x : Exit) → are_apart xs ≡ true → list_any (same_exit x) xs ≡ false → are_apart (xs ++ x ∷ []) ≡ true
apart_push [] x apart new = refl
apart_push (y ∷ ys) x apart new =
    let parts = and_parts (not (list_any (same_exit y) ys)) (are_apart ys) apart in
    let others = or_parts (same_exit x y) (list_any (same_exit x) ys) new in
    let none : list_any (same_exit y) (ys ++ x ∷ []) ≡ false = list_any-append (same_exit y) ys (x ∷ []) ∙ or-false _ _ (not-true _ parts.0) (or-false _ _ (same_flip y x ∙ others.0) refl) in
    and_from _ _ (not_from_false _ none) (apart_push ys x parts.1 others.1)

exits_apart : (xs ys : List Exit) → are_apart xs ≡ true → are_apart (with_new_items same_exit xs ys) ≡ true
exits_apart xs [] apart = apart
exits_apart xs (y ∷ ys) apart = exits_apart (with_new_item same_exit xs y) ys (by_case (list_any (same_exit y) xs) refl)
  where
    by_case : (b : Bool) → list_any (same_exit y) xs ≡ b → are_apart (cond b xs (xs ++ y ∷ [])) ≡ true
    by_case true had = apart
    by_case false new = apart_push xs y apart new

-- what stanzas make of them

-- what a stanza that sets, exports or names exits says
abbrev pub ListsGood : Stanza → Type 0
ListsGood (Env setting) = is_setting setting ≡ true
ListsGood (Export keys) = list_all is_key keys ≡ true
ListsGood (NormalExit exits) = list_all is_exit exits ≡ true
ListsGood stanza = Unit {0}

pub record EnvGood (settings : List Setting) : Type 0 where
  pub all : list_all is_setting settings ≡ true
  pub apart : has_twice (keys_in settings) ≡ false

env_step : (settings : List Setting) (stanza : Stanza) → ListsGood stanza → EnvGood settings → EnvGood (env_with settings stanza) × (length (env_with settings stanza) ≤ length settings + keys_set stanza)
env_step settings (Env setting) good env = (record { all = put_all setting settings good env.all; apart = put_apart setting settings env.apart }, put_short setting settings)
env_step settings stanza good env = (env, omega arith)

abbrev pub AllGood : (Stanza → Type 0) → List Stanza → Type 0
AllGood good [] = Unit {0}
AllGood good (stanza ∷ stanzas) = good stanza × AllGood good stanzas

pub env_good : (settings : List Setting) (stanzas : List Stanza) → AllGood ListsGood stanzas → EnvGood settings → EnvGood (fold_stanzas env_with settings stanzas) × (length (fold_stanzas env_with settings stanzas) ≤ length settings + total keys_set stanzas)
env_good settings [] good env = (env, omega arith)
env_good settings (stanza ∷ stanzas) good env =
    let step = env_step settings stanza good.0 env in
    let later = env_good (env_with settings stanza) stanzas good.1 step.0 in
    (later.0, omega (arith, step.1, later.1))

pub record ExportGood (keys : List (List ℕ)) : Type 0 where
  pub all : list_all is_key keys ≡ true
  pub apart : has_twice keys ≡ false

export_step : (keys : List (List ℕ)) (stanza : Stanza) → ListsGood stanza → ExportGood keys → ExportGood (export_with keys stanza) × (length (export_with keys stanza) ≤ length keys + keys_exported stanza)
export_step keys (Export others) good export = (record { all = news_all bytes_eq is_key keys others good export.all; apart = keys_apart keys others export.apart }, news_short bytes_eq keys others)
export_step keys stanza good export = (export, omega arith)

pub export_good : (keys : List (List ℕ)) (stanzas : List Stanza) → AllGood ListsGood stanzas → ExportGood keys → ExportGood (fold_stanzas export_with keys stanzas) × (length (fold_stanzas export_with keys stanzas) ≤ length keys + total keys_exported stanzas)
export_good keys [] good export = (export, omega arith)
export_good keys (stanza ∷ stanzas) good export =
    let step = export_step keys stanza good.0 export in
    let later = export_good (export_with keys stanza) stanzas good.1 step.0 in
    (later.0, omega (arith, step.1, later.1))

pub record ExitsGood (exits : List Exit) : Type 0 where
  pub all : list_all is_exit exits ≡ true
  pub apart : are_apart exits ≡ true

exits_step : (exits : List Exit) (stanza : Stanza) → ListsGood stanza → ExitsGood exits → ExitsGood (normal_with exits stanza)
exits_step exits (NormalExit others) good normal = record { all = news_all same_exit is_exit exits others good normal.all; apart = exits_apart exits others normal.apart }
exits_step exits stanza good normal = normal

pub exits_good : (exits : List Exit) (stanzas : List Stanza) → AllGood ListsGood stanzas → ExitsGood exits → ExitsGood (fold_stanzas normal_with exits stanzas)
exits_good exits [] good normal = normal
exits_good exits (stanza ∷ stanzas) good normal = exits_good (normal_with exits stanza) stanzas good.1 (exits_step exits stanza good.0 normal)
