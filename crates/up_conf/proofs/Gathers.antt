-- The keys that stanzas set and export, one after another.
use Rattle.std.proofs.Common.{◌≡◌, ℕ, suc, ◌<◌, Bool, true, false, ◌||◌, not, List, [], ◌∷◌, ◌++◌, length, set, Option, None, Some, option_map, cond, refl, sym, ◌∙◌, ap, arith}
use Rattle.std.specs.BTreeMap.{BTreeMap, get_by}
use Rattle.std.specs.Cmp.{both_ways}
use Rattle.std.specs.Cmp.Lexicographic.{slice_cmp}
use Rattle.std.specs.List.{list_any}
use Rattle.std.specs.Ordering.{nat_cmp}
use Rattle.std.specs.Str.{bytes_eq}
use Rattle.std.proofs.lemmas.Bool as booleans
use Rattle.std.proofs.lemmas.List.Folds.{list_any-append}
use Rattle.std.proofs.lemmas.Slice.Eq.{bytes_eq-Decides}
use denote.Ref.{Bor}
use Rattle.up_stanza.specs.declared.setting.Setting.{Setting}
use Rattle.up_stanza.specs.declared.stanza.Stanza.{Stanza}
use Rattle.up_conf.specs.Gathering.{AreIndexed, place_in}
use Rattle.up_conf.specs.Jobs.{with_new_item, put, fold_stanzas}

pub summed_both : {X : Type 0} (with : X → Stanza → X) (x : X) (xs ys : List Stanza) → fold_stanzas with (fold_stanzas with x xs) ys ≡ fold_stanzas with x (xs ++ ys)
summed_both with x [] ys = refl
summed_both with x (y ∷ xs) ys = summed_both with (with x y) xs ys

bytes_eq-flip : (xs ys : List ℕ) → bytes_eq xs ys ≡ bytes_eq ys xs
bytes_eq-flip xs ys =
    both_ways _ _ (λ e. (bytes_eq-Decides ys xs).1 (sym ((bytes_eq-Decides xs ys).0 e))) (λ e. (bytes_eq-Decides xs ys).1 (sym ((bytes_eq-Decides ys xs).0 e)))

-- what a place says of the key of a setting
pub record StandsIn (setting : Setting) (settings : List Setting) (place : ℕ) : Type 0 where
  pub within : place < length settings
  pub same : put setting settings ≡ set settings place setting
  pub places : (other : List ℕ) → place_in other (put setting settings) ≡ place_in other settings

pub stands_in : (setting : Setting) (settings : List Setting) (place : ℕ) → place_in setting.key settings ≡ Some place → StandsIn setting settings place
stands_in setting [] place is = cc
stands_in setting (first ∷ settings) place is = by_case (bytes_eq first.key setting.key) refl (place_in setting.key settings) refl (stands_in setting settings) place is
  where
    by_case : (here : Bool) → bytes_eq first.key setting.key ≡ here → (there : Option ℕ) → place_in setting.key settings ≡ there
        → ((place : ℕ) → place_in setting.key settings ≡ Some place → StandsIn setting settings place)
        → (place : ℕ) → cond here (Some 0) (option_map (λ p. suc p) there) ≡ Some place → StandsIn setting (first ∷ settings) place
    by_case true same there found rest place is =
        let start : place ≡ 0 = cc in
        let key : first.key ≡ setting.key = (bytes_eq-Decides first.key setting.key).0 same in
        rw start (record { within = omega arith; same = rw same refl; places = λ other. rw (same, key) refl })
    by_case false differ None found rest place is = cc
    by_case false differ (Some later) found rest place is =
        let next : place ≡ suc later = cc in
        let h = rest later found in
        let within = h.within in
        rw next (record {
          within = omega (arith, within);
          same = rw differ (ap (λ others. first ∷ others) h.same);
          places = λ other. rw differ (ap (λ p. cond (bytes_eq first.key other) (Some 0) (option_map (λ n. suc n) p)) (h.places other));
        })

-- what it says that its key has none
pub record IsNew (setting : Setting) (settings : List Setting) : Type 0 where
  pub same : put setting settings ≡ settings ++ setting ∷ []
  pub places : (other : List ℕ) → place_in other (put setting settings) ≡ cond (bytes_eq setting.key other) (Some (length settings)) (place_in other settings)

pub is_new : (setting : Setting) (settings : List Setting) → place_in setting.key settings ≡ None → IsNew setting settings
is_new setting [] is = record { same = refl; places = λ other. refl }
is_new setting (first ∷ settings) is = by_case (bytes_eq first.key setting.key) refl (place_in setting.key settings) refl (is_new setting settings) is
  where
    later : (other : List ℕ) (same here : Bool) → bytes_eq setting.key other ≡ same → bytes_eq first.key other ≡ here → bytes_eq first.key setting.key ≡ false
        → cond here (Some 0) (option_map (λ n. suc n) (cond same (Some (length settings)) (place_in other settings)))
        ≡ cond same (Some (suc (length settings))) (cond here (Some 0) (option_map (λ n. suc n) (place_in other settings)))
    later other true true equal first_is differ =
        let is : setting.key ≡ other = (bytes_eq-Decides setting.key other).0 equal in
        absurd (booleans.both_ways (bytes_eq first.key setting.key) differ (rw is first_is))
    later other true false equal first_is differ = refl
    later other false here equal first_is differ = refl

    by_case : (here : Bool) → bytes_eq first.key setting.key ≡ here → (there : Option ℕ) → place_in setting.key settings ≡ there
        → (place_in setting.key settings ≡ None → IsNew setting settings)
        → cond here (Some 0) (option_map (λ p. suc p) there) ≡ None → IsNew setting (first ∷ settings)
    by_case true same there found rest is = cc
    by_case false differ (Some place) found rest is = cc
    by_case false differ None found rest is =
        let h = rest found in
        record {
          same = rw differ (ap (λ others. first ∷ others) h.same);
          places = λ other.
              rw differ (ap (λ p. cond (bytes_eq first.key other) (Some 0) (option_map (λ n. suc n) p)) (h.places other)
              ∙ later other (bytes_eq setting.key other) (bytes_eq first.key other) refl refl differ);
        }

-- a key that is there takes the new setting
pub put_there : (setting : Setting) (old new : List Setting) (places : BTreeMap (Bor (List ℕ)) ℕ) (place : ℕ) → AreIndexed places old
    → get_by (λ k. slice_cmp nat_cmp setting.key k.now) places ≡ Some place → new ≡ set old place setting → (new ≡ put setting old) × AreIndexed places new
put_there setting old new places place is found write =
    let h = stands_in setting old place (sym (is setting.key) ∙ found) in
    let same : new ≡ put setting old = write ∙ sym h.same in
    rw same (refl, λ other. is other ∙ sym (h.places other))

-- another goes last
pub put_last : (setting : Setting) (old new : List Setting) (places more : BTreeMap (Bor (List ℕ)) ℕ) → AreIndexed places old
    → get_by (λ k. slice_cmp nat_cmp setting.key k.now) places ≡ None → new ≡ old ++ setting ∷ []
    → ((other : List ℕ) → get_by (λ k. slice_cmp nat_cmp other k.now) more ≡ cond (bytes_eq setting.key other) (Some (length old)) (get_by (λ k. slice_cmp nat_cmp other k.now) places))
    → (new ≡ put setting old) × AreIndexed more new
put_last setting old new places more is none write noted =
    let h = is_new setting old (sym (is setting.key) ∙ none) in
    let same : new ≡ put setting old = write ∙ sym h.same in
    rw same (refl, λ other. noted other ∙ ap (cond (bytes_eq setting.key other) (Some (length old))) (is other) ∙ sym (h.places other))

any-last : (key other : List ℕ) (keys : List (List ℕ)) → list_any (bytes_eq other) (keys ++ key ∷ []) ≡ cond (bytes_eq key other) true (list_any (bytes_eq other) keys)
any-last key other keys =
    list_any-append (bytes_eq other) keys (key ∷ [])
    ∙ ap (λ b. list_any (bytes_eq other) keys || (b || false)) (bytes_eq-flip other key)
    ∙ by_case (list_any (bytes_eq other) keys) (bytes_eq key other)
  where
    by_case : (b c : Bool) → (b || (c || false)) ≡ cond c true b
    by_case true true = refl
    by_case true false = refl
    by_case false true = refl
    by_case false false = refl

any-there : (key other : List ℕ) (keys : List (List ℕ)) → list_any (bytes_eq key) keys ≡ true → list_any (bytes_eq other) keys ≡ cond (bytes_eq key other) true (list_any (bytes_eq other) keys)
any-there key other keys there = by_case (bytes_eq key other) refl
  where
    by_case : (c : Bool) → bytes_eq key other ≡ c → list_any (bytes_eq other) keys ≡ cond c true (list_any (bytes_eq other) keys)
    by_case true same = let is : key ≡ other = (bytes_eq-Decides key other).0 same in rw is at there
    by_case false differ = refl

-- a key more is seen
pub seen_more : (key other : List ℕ) (keys : List (List ℕ)) → list_any (bytes_eq other) (with_new_item bytes_eq keys key) ≡ cond (bytes_eq key other) true (list_any (bytes_eq other) keys)
seen_more key other keys = by_case (list_any (bytes_eq key) keys) refl
  where
    by_case : (b : Bool) → list_any (bytes_eq key) keys ≡ b → list_any (bytes_eq other) (cond b keys (keys ++ key ∷ [])) ≡ cond (bytes_eq key other) true (list_any (bytes_eq other) keys)
    by_case true there = any-there key other keys there
    by_case false gone = any-last key other keys

pub added_new : (keys : List (List ℕ)) (key : List ℕ) → not (list_any (bytes_eq key) keys) ≡ true → with_new_item bytes_eq keys key ≡ keys ++ key ∷ []
added_new keys key new = let gone : list_any (bytes_eq key) keys ≡ false = booleans.not-true _ new in rw gone refl

pub added_old : (keys : List (List ℕ)) (key : List ℕ) → not (list_any (bytes_eq key) keys) ≡ false → with_new_item bytes_eq keys key ≡ keys
added_old keys key old = by_case (list_any (bytes_eq key) keys) old
  where
    by_case : (b : Bool) → not b ≡ false → cond b keys (keys ++ key ∷ []) ≡ keys
    by_case true is = refl
    by_case false is = absurd (booleans.false≢true (sym is))
