use Rattle.std.specs.Prelude.{Bool, true, false, ◌&&◌, not, List, [], ◌∷◌, Option, None, Some, map, if◌then◌else◌, String, string_bytes}
use Rattle.std.specs.Str.{bytes_eq}
use Rattle.up_value.specs.Names.{is_key, is_value}
use Rattle.up_value.specs.Values.{Bytes, Bindings}

-- The bindings of an environment or an event are pairs of a key and its value, in order.

-- the value of a key
abbrev pub value_of : Bytes → Bindings → Option Bytes
value_of key [] = None
value_of key (binding ∷ bindings) = if bytes_eq key binding.0 then Some binding.1 else value_of key bindings

-- whether it is the pair of the key
abbrev pub is_of : Bytes → Bytes × Bytes → Bool
is_of key binding = bytes_eq key binding.0

-- a key is set: one that is there keeps its place, and a new one goes last
abbrev pub set_in : Bytes → Bytes → Bindings → Bindings
set_in key value [] = (key, value) ∷ []
set_in key value (binding ∷ bindings) =
    if bytes_eq key binding.0 then (binding.0, value) ∷ bindings else binding ∷ set_in key value bindings

-- each of the pairs is set in turn
abbrev pub set_all : Bindings → Bindings → Bindings
set_all bindings [] = bindings
set_all bindings (pair ∷ pairs) = set_all (set_in pair.0 pair.1 bindings) pairs

-- whether the key is among those of the bindings
abbrev pub has_key : Bytes → Bindings → Bool
has_key key [] = false
has_key key (binding ∷ bindings) = if bytes_eq key binding.0 then true else has_key key bindings

-- distinct keys, each with a value that it may have
abbrev pub are_bindings : Bindings → Bool
are_bindings [] = true
are_bindings (binding ∷ bindings) = is_key binding.0 && is_value binding.1
    && not (has_key binding.0 bindings) && are_bindings bindings

-- the bindings that a map's entries are
abbrev pub binding_of : {A : Type 0} → String A × Bytes → Bytes × Bytes
binding_of entry = (string_bytes entry.0, entry.1)

abbrev pub bindings_of : {A : Type 0} → List (String A × Bytes) → Bindings
bindings_of entries = map binding_of entries
