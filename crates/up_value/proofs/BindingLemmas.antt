-- What a map's entries say of the bindings that contracts see.
use Rattle.std.proofs.Common.{◌≡◌, ℕ, ◌+◌, add-one, Bool, true, false, List, [], ◌∷◌, ◌++◌, take, Some, cond, refl, sym, ◌∙◌, ap, subst, slice_get, zero, suc}
use Rattle.std.specs.Prelude.{String, string_bytes, Result, Ok, Err, OnOk, OnErr}
use Rattle.std.specs.Str.{bytes_eq}
use Rattle.std.specs.Map.{lookup}
use Rattle.indexmap.specs.IndexMap.{insert_entry}
use Rattle.std.proofs.lemmas.Bool.{and_parts, not-true, false_from_ne_true, both_ways}
use Rattle.std.proofs.lemmas.Slice.Eq.{bytes_eq-Decides}
use Rattle.std.proofs.lemmas.List.{append-nil, append_assoc}
use Rattle.up_value.specs.Names.{is_key, is_value}
use Rattle.up_value.specs.Bindings.{value_of, set_in, set_all, has_key, are_bindings, bindings_of}

-- tests of bytes don't mind the order
flip : (xs ys : List ℕ) → bytes_eq xs ys ≡ false → bytes_eq ys xs ≡ false
flip xs ys differ = false_from_ne_true (bytes_eq ys xs) (λ same. both_ways (bytes_eq xs ys) differ ((bytes_eq-Decides xs ys).1 (sym ((bytes_eq-Decides ys xs).0 same))))

either : (same absent : Bool) → cond same true absent ≡ false → (same ≡ false) × (absent ≡ false)
either true absent h = absurd (both_ways true h refl)
either false absent h = (refl, h)

neither : (same absent : Bool) → same ≡ false → absent ≡ false → cond same true absent ≡ false
neither same absent differ gone = rw differ gone

-- a key that isn't there, and isn't the one that is set, isn't there afterwards
has_key-set_in : (other key value : List ℕ) (bindings : List (List ℕ × List ℕ)) → has_key other bindings ≡ false → bytes_eq other key ≡ false → has_key other (set_in key value bindings) ≡ false
has_key-set_in other key value [] absent differ = rw differ refl
has_key-set_in other key value (binding ∷ bindings) absent differ =
    let parts = either (bytes_eq other binding.0) (has_key other bindings) absent in
    by_case (bytes_eq key binding.0) absent (neither (bytes_eq other binding.0) (has_key other (set_in key value bindings)) parts.0 (has_key-set_in other key value bindings parts.1 differ))
  where
    by_case : (set : Bool) → has_key other (binding ∷ bindings) ≡ false → has_key other (binding ∷ set_in key value bindings) ≡ false
        → has_key other (cond set ((binding.0, value) ∷ bindings) (binding ∷ set_in key value bindings)) ≡ false
    by_case true kept new = kept
    by_case false kept new = new

-- what the test says of a list's first pair and of the others
record Leads (binding : List ℕ × List ℕ) (bindings : List (List ℕ × List ℕ)) : Type 0 where
  key : is_key binding.0 ≡ true
  value : is_value binding.1 ≡ true
  apart : has_key binding.0 bindings ≡ false
  rest : are_bindings bindings ≡ true

leads : (binding : List ℕ × List ℕ) (bindings : List (List ℕ × List ℕ)) → are_bindings (binding ∷ bindings) ≡ true → Leads binding bindings
leads binding bindings are =
    let all = and_parts _ _ are in
    let front = and_parts _ _ all.0 in
    let both = and_parts _ _ front.0 in
    record { key = both.0; value = both.1; apart = not-true _ front.1; rest = all.1 }

led : (binding : List ℕ × List ℕ) (bindings : List (List ℕ × List ℕ)) → Leads binding bindings → are_bindings (binding ∷ bindings) ≡ true
led binding bindings h = rw (h.key, h.value, h.apart, h.rest) refl

-- each of the pairs that an environment has may be set in another
pub good_at : (bindings : List (List ℕ × List ℕ)) (i : ℕ) (key value : List ℕ) → are_bindings bindings ≡ true → slice_get bindings i ≡ Some (key, value) → (is_key key ≡ true) × (is_value value ≡ true)
good_at [] i key value are got = cc
good_at (binding ∷ bindings) zero key value are got =
    let h = leads binding bindings are in
    let same : binding ≡ (key, value) = cc in
    (subst (λ (b : List ℕ × List ℕ). is_key b.0 ≡ true) same h.key, subst (λ (b : List ℕ × List ℕ). is_value b.1 ≡ true) same h.value)
good_at (binding ∷ bindings) (suc i) key value are got = good_at bindings i key value (leads binding bindings are).rest got

-- one pair more is set
pub set_all-more : (bindings pairs : List (List ℕ × List ℕ)) (i : ℕ) (key value : List ℕ) → slice_get pairs i ≡ Some (key, value)
    → set_all bindings (take (i + 1) pairs) ≡ set_in key value (set_all bindings (take i pairs))
set_all-more bindings pairs i key value got = ap (λ n. set_all bindings (take n pairs)) (add-one i) ∙ further bindings pairs i got
  where
    further : (bindings pairs : List (List ℕ × List ℕ)) (i : ℕ) → slice_get pairs i ≡ Some (key, value) → set_all bindings (take (suc i) pairs) ≡ set_in key value (set_all bindings (take i pairs))
    further bindings [] i got = cc
    further bindings (pair ∷ pairs) zero got =
        let same : pair ≡ (key, value) = cc in
        ap (λ (p : List ℕ × List ℕ). set_in p.0 p.1 bindings) same
    further bindings (pair ∷ pairs) (suc i) got = further (set_in pair.0 pair.1 bindings) pairs i got

-- distinct keys stay distinct
pub are_bindings-set_in : (key value : List ℕ) (bindings : List (List ℕ × List ℕ)) → are_bindings bindings ≡ true → is_key key ≡ true → is_value value ≡ true → are_bindings (set_in key value bindings) ≡ true
are_bindings-set_in key value [] are good fit = led (key, value) [] (record { key = good; value = fit; apart = refl; rest = refl })
are_bindings-set_in key value (binding ∷ bindings) are good fit =
    by_case (bytes_eq key binding.0) refl (leads binding bindings are) (are_bindings-set_in key value bindings)
  where
    by_case : (set : Bool) → bytes_eq key binding.0 ≡ set → Leads binding bindings
        → (are_bindings bindings ≡ true → is_key key ≡ true → is_value value ≡ true → are_bindings (set_in key value bindings) ≡ true)
        → are_bindings (cond set ((binding.0, value) ∷ bindings) (binding ∷ set_in key value bindings)) ≡ true
    by_case true same h ih = led (binding.0, value) bindings (record { key = h.key; value = fit; apart = h.apart; rest = h.rest })
    by_case false differ h ih = led binding (set_in key value bindings) (record {
      key = h.key;
      value = h.value;
      apart = has_key-set_in binding.0 key value bindings h.apart (flip key binding.0 differ);
      rest = ih h.rest good fit;
    })

has_key-middle : (front : List (List ℕ × List ℕ)) (pair : List ℕ × List ℕ) (pairs : List (List ℕ × List ℕ)) (key : List ℕ) → has_key key (front ++ pair ∷ pairs) ≡ false → bytes_eq key pair.0 ≡ false
has_key-middle [] pair pairs key absent = (either (bytes_eq key pair.0) (has_key key pairs) absent).0
has_key-middle (binding ∷ front) pair pairs key absent = has_key-middle front pair pairs key (either (bytes_eq key binding.0) (has_key key (front ++ pair ∷ pairs)) absent).1

-- a key that stands apart from those before it goes last
absent_front : (front : List (List ℕ × List ℕ)) (pair : List ℕ × List ℕ) (pairs : List (List ℕ × List ℕ)) → are_bindings (front ++ pair ∷ pairs) ≡ true → set_in pair.0 pair.1 front ≡ front ++ pair ∷ []
absent_front [] pair pairs are = refl
absent_front (binding ∷ front) pair pairs are =
    let h = leads binding (front ++ pair ∷ pairs) are in
    let differ : bytes_eq pair.0 binding.0 ≡ false = flip binding.0 pair.0 (has_key-middle front pair pairs binding.0 h.apart) in
    rw differ (ap (λ others. binding ∷ others) (absent_front front pair pairs h.rest))

-- distinct keys that are set one after another stand as they are
set_all-apart : (front pairs : List (List ℕ × List ℕ)) → are_bindings (front ++ pairs) ≡ true → set_all front pairs ≡ front ++ pairs
set_all-apart front [] are = sym (append-nil front)
set_all-apart front (pair ∷ pairs) are =
    let whole : (front ++ pair ∷ []) ++ pairs ≡ front ++ pair ∷ pairs = append_assoc front (pair ∷ []) pairs in
    ap (λ bindings. set_all bindings pairs) (absent_front front pair pairs are)
    ∙ set_all-apart (front ++ pair ∷ []) pairs (rw whole are)
    ∙ whole

pub set_all-nil : (pairs : List (List ℕ × List ℕ)) → are_bindings pairs ≡ true → set_all [] pairs ≡ pairs
set_all-nil pairs are = set_all-apart [] pairs are

-- what a map has at a key is the value of the bindings that its entries are
pub lookup_value : {A : Type 0} (key : List ℕ) (entries : List (String A × List ℕ))
    → lookup (λ k. bytes_eq key (string_bytes k)) entries ≡ value_of key (bindings_of entries)
lookup_value key [] = refl
lookup_value key (entry ∷ entries) = ap (λ rest. cond (bytes_eq key (string_bytes entry.0)) (Some entry.1) rest) (lookup_value key entries)

-- an entry that is inserted sets its key
pub inserted_sets : {A : Type 0} (eq : String A → String A → Bool) (entries : List (String A × List ℕ)) (key : String A) (value : List ℕ)
    → ((a b : String A) → eq a b ≡ bytes_eq (string_bytes a) (string_bytes b))
    → bindings_of (insert_entry eq entries key value) ≡ set_in (string_bytes key) value (bindings_of entries)
inserted_sets eq [] key value same = refl
inserted_sets eq (entry ∷ entries) key value same =
    rw (same key entry.0) (by_case (bytes_eq (string_bytes key) (string_bytes entry.0)) (inserted_sets eq entries key value same))
  where
    by_case : (here : Bool) → bindings_of (insert_entry eq entries key value) ≡ set_in (string_bytes key) value (bindings_of entries)
        → bindings_of (cond here ((entry.0, value) ∷ entries) (entry ∷ insert_entry eq entries key value))
        ≡ cond here ((string_bytes entry.0, value) ∷ bindings_of entries) ((string_bytes entry.0, entry.1) ∷ set_in (string_bytes key) value (bindings_of entries))
    by_case true rest = refl
    by_case false rest = ap (λ others. (string_bytes entry.0, entry.1) ∷ others) rest

-- bindings are bindings after a key is set, and where memory was refused
pub set_or_kept : {E : Type 0} (key value : List ℕ) (old new : List (List ℕ × List ℕ)) (result : Result (Unit {0}) E)
    → are_bindings old ≡ true → is_key key ≡ true → is_value value ≡ true
    → OnOk result (new ≡ set_in key value old) → OnErr result (new ≡ old) → are_bindings new ≡ true
set_or_kept key value old new (Ok done) are good fit set kept = rw set (are_bindings-set_in key value old are good fit)
set_or_kept key value old new (Err refused) are good fit set kept = rw kept are
