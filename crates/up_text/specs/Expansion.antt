-- What a text with expansions of `$KEY` says, and what it expands to.
use Rattle.std.specs.Prelude.{ℕ, zero, suc, ◌+◌, ◌-◌, ◌==◌, ◌&&◌, nat_lt, Bool, true, false, if◌then◌else◌, List, [], ◌∷◌, ◌++◌, length, take, drop, Option, None, Some, option_map, is_some}
use Rattle.std.specs.List.{prefix_len}
use Rattle.up_value.specs.Bindings.{value_of}
use Rattle.up_pattern.specs.Lists.{begins}
use Rattle.up_value.specs.Names.{is_key_start, is_key_byte}
use Rattle.up_value.specs.Values.{Bytes, Bindings}

-- The first half: what a text says, whatever is set. Its bytes are read as signs, and the signs as texts that may stand in one
-- another. It is malformed if a sign is wrong, if a text isn't ended, or where more than 16 `${` stand in each other.

-- a byte that stands for itself; $KEY; ${KEY}; the ${KEY- or, if `emptied`, the ${KEY:- before a text; a }; any other ${
pub data Sign : Type 0 where
  Plain : (byte : ℕ) → Sign
  Named : (key : Bytes) → Sign
  Braced : (key : Bytes) → Sign
  Opened : (key : Bytes) → (emptied : Bool) → Sign
  Closing : Sign
  Wrong : Sign

-- the longest key that a text begins with, or nothing
abbrev pub key_of : Bytes → Bytes
key_of text = if begins is_key_start text then take (prefix_len is_key_byte text) text else []

-- what a ${ and a key begin, by the bytes after them
abbrev pub braced : Bytes → Bytes → Sign
braced key [] = Wrong
braced key (byte ∷ text) =
    if length key == 0 then Wrong
    else (if byte == 125 then Braced key
    else (if byte == 45 then Opened key false
    else (if byte == 58 && begins (λ next. next == 45) text then Opened key true
    else Wrong)))

-- what a $ begins, by the bytes after it
abbrev pub dollar : Bytes → Sign
dollar [] = Plain 36
dollar (byte ∷ text) =
    if byte == 123 then braced (key_of text) (drop (length (key_of text)) text)
    else (if length (key_of (byte ∷ text)) == 0 then Plain 36
    else Named (key_of (byte ∷ text)))

-- the sign that begins with a byte, by the bytes after it
abbrev pub sign : ℕ → Bytes → Sign
sign byte text = if byte == 36 then dollar text else (if byte == 125 then Closing else Plain byte)

-- how many bytes of a sign stand after its first
abbrev pub bytes_after : Sign → ℕ
bytes_after (Plain byte) = 0
bytes_after (Named key) = length key
bytes_after (Braced key) = length key + 2
bytes_after (Opened key emptied) = if emptied then length key + 3 else length key + 2
bytes_after Closing = 0
bytes_after Wrong = 1

-- the signs of a text whose first bytes, so many, belong to the sign before them
abbrev pub signs : ℕ → Bytes → List Sign
signs n [] = []
signs zero (byte ∷ text) = sign byte text ∷ signs (bytes_after (sign byte text)) text
signs (suc n) (byte ∷ text) = signs n text

-- what a text says: no more; or a byte that stands for itself, a key that must be set, or a key with the text that stands in for
-- it if it is unset (or empty, if `emptied`), and more after it. A chain of parts, since no `data` may hold a list of itself
pub data Parts : Type 0 where
  Done : Parts
  Byte : (byte : ℕ) → (more : Parts) → Parts
  Key : (key : Bytes) → (more : Parts) → Parts
  Default : (key : Bytes) → (emptied : Bool) → (text more : Parts) → Parts

-- Texts that stand in each other are a list, the innermost first, and of each the parts that are still to come.

-- the innermost text
abbrev pub innermost_text : List Parts → Parts
innermost_text [] = Done
innermost_text (text ∷ outer) = text

-- the texts round it
abbrev pub outside : List Parts → List Parts
outside [] = []
outside (text ∷ outer) = outer

-- a part before the innermost text
abbrev pub before : (Parts → Parts) → List Parts → List Parts
before part texts = part (innermost_text texts) ∷ outside texts

-- the innermost text stands in for a key, before the text round it
abbrev pub with_default : Bytes → Bool → List Parts → List Parts
with_default key emptied texts = before (Default key emptied (innermost_text texts)) (outside texts)

-- what the signs say in so many texts round them, or none if it is malformed
abbrev pub texts_of : ℕ → List Sign → Option (List Parts)
texts_of depth [] = if depth == 0 then Some (Done ∷ []) else None
texts_of depth (Plain byte ∷ later) = option_map (before (Byte byte)) (texts_of depth later)
texts_of depth (Named key ∷ later) = option_map (before (Key key)) (texts_of depth later)
texts_of depth (Braced key ∷ later) = if nat_lt depth 16
    then option_map (before (Key key)) (texts_of depth later) else None
texts_of depth (Opened key emptied ∷ later) =
    if nat_lt depth 16 then option_map (with_default key emptied) (texts_of (depth + 1) later) else None
texts_of depth (Closing ∷ later) =
    if depth == 0 then option_map (before (Byte 125)) (texts_of depth later)
    else option_map (λ texts. Done ∷ texts) (texts_of (depth - 1) later)
texts_of depth (Wrong ∷ later) = None

-- what a text says, or none if it is malformed
abbrev pub parts_of : Bytes → Option Parts
parts_of text = option_map innermost_text (texts_of 0 (signs 0 text))

-- whether a text is well formed
unfoldable pub is_expandable : Bytes → Bool
is_expandable text = is_some (parts_of text)

-- The second half: what that expands to, by the keys that are set.

-- a text expands to a text, or lacks a key, the first unset one that was needed; or it is malformed
pub data Expansion : Type 0 where
  Expands : (text : Bytes) → Expansion
  Lacks : (key : Bytes) → Expansion
  Malformed : Expansion

-- one expansion after another
abbrev pub then_expansion : Expansion → Expansion → Expansion
then_expansion (Expands front) (Expands back) = Expands (front ++ back)
then_expansion (Expands front) (Lacks key) = Lacks key
then_expansion (Expands front) Malformed = Malformed
then_expansion (Lacks key) back = Lacks key
then_expansion Malformed back = Malformed

-- the value that counts: where emptied, an empty one doesn't
abbrev pub usable_value : Bool → Option Bytes → Option Bytes
usable_value emptied None = None
usable_value emptied (Some value) = if emptied && (length value == 0) then None else Some value

-- a value, or what stands in for it
abbrev pub value_or : Option Bytes → Expansion → Expansion
value_or None other = other
value_or (Some value) other = Expands value

-- what the parts of a text expand to: a text that isn't needed changes nothing
abbrev pub meaning : Bindings → Parts → Expansion
meaning env Done = Expands []
meaning env (Byte byte more) = then_expansion (Expands (byte ∷ [])) (meaning env more)
meaning env (Key key more) = then_expansion (value_or (value_of key env) (Lacks key)) (meaning env more)
meaning env (Default key emptied text more) =
    then_expansion (value_or (usable_value emptied (value_of key env)) (meaning env text)) (meaning env more)

-- the same, or that the text is malformed
abbrev pub expansion : Bindings → Option Parts → Expansion
expansion env None = Malformed
expansion env (Some parts) = meaning env parts

-- what a text expands to, by the keys that are set
unfoldable pub expand : Bytes → Bindings → Expansion
expand text env = expansion env (parts_of text)
