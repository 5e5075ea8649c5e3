-- What a map's entries say of what contracts see by names.
use Rattle.std.proofs.Common.{◌≡◌, ℕ, Bool, true, false, List, [], ◌∷◌, Some, cond, refl, ap}
use Rattle.std.specs.Prelude.{String, string_bytes}
use Rattle.std.specs.Str.{bytes_eq}
use Rattle.std.specs.Map.{lookup}
use Rattle.indexmap.specs.IndexMap.{insert_entry}
use Rattle.up_chart.specs.Rows.{all_named, entry_of, set_entry}

-- what a map has at a name is the entry of that name
pub lookup_named : {A V : Type 0} (name : List ℕ) (entries : List (String A × V))
    → lookup (λ k. bytes_eq name (string_bytes k)) entries ≡ entry_of name (all_named entries)
lookup_named name [] = refl
lookup_named name (entry ∷ entries) = ap (λ rest. cond (bytes_eq name (string_bytes entry.0)) (Some entry.1) rest) (lookup_named name entries)

-- an entry that is inserted is set
pub inserted_sets : {A V : Type 0} (eq : String A → String A → Bool) (entries : List (String A × V)) (name : String A) (value : V)
    → ((a b : String A) → eq a b ≡ bytes_eq (string_bytes a) (string_bytes b))
    → all_named (insert_entry eq entries name value) ≡ set_entry (string_bytes name) value (all_named entries)
inserted_sets eq [] name value same = refl
inserted_sets eq (entry ∷ entries) name value same =
    rw (same name entry.0) (by_case (bytes_eq (string_bytes name) (string_bytes entry.0)) (inserted_sets eq entries name value same))
  where
    by_case : (here : Bool) → all_named (insert_entry eq entries name value) ≡ set_entry (string_bytes name) value (all_named entries)
        → all_named (cond here ((entry.0, value) ∷ entries) (entry ∷ insert_entry eq entries name value))
        ≡ cond here ((string_bytes entry.0, value) ∷ all_named entries) ((string_bytes entry.0, entry.1) ∷ set_entry (string_bytes name) value (all_named entries))
    by_case true rest = refl
    by_case false rest = ap (λ others. (string_bytes entry.0, entry.1) ∷ others) rest
