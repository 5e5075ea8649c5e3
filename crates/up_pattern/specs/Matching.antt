-- What the parts of the matching give.
use Rattle.std.specs.Prelude.{◌≡◌, ℕ, ◌+◌, ◌-◌, ◌<◌, ◌≤◌, ◌==◌, Bool, true, false, ◌&&◌, ◌||◌, not, if◌then◌else◌, List, [], ◌∷◌, length, drop, map, slice_get, slice_index, Option, Some}
use Rattle.std.specs.List.{list_any}
use Rattle.up_pattern.specs.declared.pattern.Symbol.{Symbol}
use Rattle.up_pattern.specs.declared.pattern.Symbol.TheVariants.{Bare, Escaped, Trailing}
use Rattle.up_pattern.specs.declared.pattern.Part.{Part}
use Rattle.up_pattern.specs.declared.pattern.Part.TheVariants as part
use Rattle.up_pattern.specs.declared.pattern.SetEnd.{SetEnd}
use Rattle.up_pattern.specs.declared.pattern.SetEnd.TheVariants as ending
use Rattle.up_pattern.specs.declared.pattern.Reading.{Reading}
use Rattle.up_pattern.specs.declared.pattern.Memo.{Memo}
use Rattle.up_pattern.specs.declared.pattern.Outcome.{Outcome}
use Rattle.up_pattern.specs.declared.pattern.Outcome.TheVariants as outcome
use Rattle.up_pattern.specs.Pattern.{symbols, is_close, is_dash, byte_of, body, is_closed, has_class, ranges, Item, Run, Any, Only, Among, Never, Class, is_class, lone_item, more, all_items, admits_byte}

-- the first symbol of a text, and what it leaves
abbrev pub First : List ℕ → Symbol → List ℕ → Type 0
First text symbol rest = (symbols text ≡ symbol ∷ symbols rest) × (length rest < length text)

-- whether a test passes at the bytes or at one of their ends
abbrev pub star_from : (List ℕ → Bool) → List ℕ → Bool
star_from test [] = test []
star_from test (byte ∷ bytes) = test (byte ∷ bytes) || star_from test bytes

-- whether the bytes begin with one that the item admits, and the test passes after it
abbrev pub one_from : Item → (List ℕ → Bool) → List ℕ → Bool
one_from item test [] = false
one_from item test (byte ∷ bytes) = admits_byte item byte && test bytes

-- whether an item admits the front of the bytes, and the test passes after it
abbrev pub item_from : Item → (List ℕ → Bool) → List ℕ → Bool
item_from Run test bytes = star_from test bytes
item_from item test bytes = one_from item test bytes

-- an item of any run of bytes
abbrev pub is_run : Item → Bool
is_run Run = true
is_run other = false

-- the item doesn't admit the first of the bytes
abbrev pub TakesNone : Item → List ℕ → Type 0
TakesNone item [] = Unit {0}
TakesNone item (byte ∷ bytes) = admits_byte item byte ≡ false

-- it does, and these stand after it
abbrev pub TakesOne : Item → List ℕ → List ℕ → Type 0
TakesOne item [] beyond = ⊥
TakesOne item (byte ∷ bytes) beyond = (admits_byte item byte ≡ true) × (beyond ≡ bytes)

-- whether there are no bytes
abbrev pub is_nil : List ℕ → Bool
is_nil [] = true
is_nil (byte ∷ bytes) = false

-- whether items match the bytes, one item at a time
abbrev pub items_match : List Item → List ℕ → Bool
items_match [] bytes = is_nil bytes
items_match (item ∷ items) bytes = item_from item (items_match items) bytes

-- a byte that means something else in a pattern: a star, a question mark, an opening bracket or a backslash
abbrev pub is_wild : ℕ → Bool
is_wild byte = byte == 42 || (byte == 63 || (byte == 91 || byte == 92))

-- a text in which each [ stands for itself
abbrev pub IsFlat : List ℕ → Type 0
IsFlat text = all_items text ≡ map lone_item (symbols text)

-- symbols that stand at the end of others
abbrev pub IsEnd : List Symbol → List Symbol → Type 0
IsEnd later symbols = (count : ℕ) × (later ≡ drop count symbols)

-- the bytes of a symbol
abbrev pub width : Symbol → ℕ
width (Bare byte) = 1
width (Escaped byte) = 2
width Trailing = 1

-- the bytes of symbols
abbrev pub width_of : List Symbol → ℕ
width_of [] = 0
width_of (symbol ∷ symbols) = width symbol + width_of symbols

-- the bytes after the last ], or all if there is none
abbrev pub unclosed_width : List Symbol → ℕ
unclosed_width [] = 0
unclosed_width (symbol ∷ symbols) =
    if list_any is_close symbols then unclosed_width symbols
    else (if is_close symbol then width_of symbols else width_of (symbol ∷ symbols))

-- a text whose sets have no class, and of which no more than this many bytes stand after the last ]
pub record Settled (unclosed : ℕ) (text : List ℕ) : Type 0 where
  pub ends : (later : List Symbol) → IsEnd later (symbols text) → width_of later ≤ unclosed
      → list_any is_close later ≡ false
  pub classless : list_any is_class (all_items text) ≡ false

-- what is known of some bytes is whether the item admits them
abbrev pub Knows : List (Option Bool) → Item → Type 0
Knows known item = (byte : ℕ) (admitted : Bool) → slice_get known byte ≡ Some (Some admitted)
    → admits_byte item byte ≡ admitted

-- the last byte of the range that begins with this item, and what stands after it
abbrev pub range_end : ℕ → List Symbol → ℕ × List Symbol
range_end low [] = (low, [])
range_end low (dash ∷ []) = (low, dash ∷ [])
range_end low (dash ∷ high ∷ symbols) =
    if is_dash dash && not (is_close high) then (byte_of high, symbols) else (low, dash ∷ high ∷ symbols)

-- how a set ends
abbrev pub EndsSo : SetEnd → List ℕ → Type 0
EndsSo ending.Class set = has_class (body (symbols set)) ≡ true
EndsSo ending.Open set = (has_class (body (symbols set)) ≡ false) × (is_closed (symbols set) ≡ false)
EndsSo (ending.Closed rest) set =
    (has_class (body (symbols set)) ≡ false) × (is_closed (symbols set) ≡ true)
    × (symbols rest.now ≡ drop (length (body (symbols set)) + 1) (symbols set))
    × (length rest.now ≤ length set)

-- the item of a part
abbrev pub item_of_part : Part → Item
item_of_part part.Run = Run
item_of_part part.Any = Any
item_of_part (part.Only byte) = Only byte
item_of_part (part.Among inverted set) = Among inverted (ranges (body (symbols set.now)))
item_of_part part.Never = Never
item_of_part part.Class = Class

-- an item of a text, with what stands after it and what is known of bytes
pub record Kept (unclosed : ℕ) (text : List ℕ) (memo : Memo) : Type 0 where
  pub item : drop memo.index (all_items text) ≡ item_of_part memo.part ∷ all_items memo.rest.now
  pub settled : Settled unclosed memo.rest.now
  pub shorter : memo.index + length memo.rest.now < length text
  pub room : length memo.known ≡ 256
  pub knows : Knows memo.known (item_of_part memo.part)

-- an item of which this text may be a part was read
pub record MeansItem (item : Item) (text : List ℕ) (reading : Reading) : Type 0 where
  pub part : item_of_part reading.part ≡ item
  pub rest : symbols reading.rest.now ≡ drop (more item (symbols text)) (symbols text)
  pub flat : reading.ahead ≡ false → IsFlat reading.rest.now
  pub shorter : length reading.rest.now ≤ length text

-- items take one byte each: these items and these bytes are left
pub record Takes (items : List Item) (bytes : List ℕ) (later : List Item) (left : List ℕ) : Type 0 where
  pub same : items_match items bytes ≡ items_match later left
  pub beyond : left ≡ drop (length bytes - length left) bytes
  pub shorter : length left ≤ length bytes
  pub needs : (others : List ℕ) → items_match items others ≡ true
      → items_match later (drop (length bytes - length left) others) ≡ true

-- a byte of a text that is an item by itself, of one byte: no star, opening bracket or backslash
abbrev pub is_lone : ℕ → Bool
is_lone byte = not (byte == 42 || (byte == 91 || byte == 92))

-- whether a byte of a text is such an item, and admits the other
abbrev pub admits_lone : ℕ → ℕ → Bool
admits_lone byte other = is_lone byte && admits_byte (lone_item (Bare byte)) other

-- so many bytes of a text, from the first on, are such items and admit the bytes at their places
abbrev pub AdmitLone : ℕ → List ℕ → List ℕ → Type 0
AdmitLone count text bytes = (place : ℕ) → place < count
    → admits_lone (slice_index text place) (slice_index bytes place) ≡ true

-- items take one byte each, up to a run of any bytes: after it these items and these bytes are left
pub record Leads (items : List Item) (bytes : List ℕ) (later : List Item) (left : List ℕ) : Type 0 where
  pub same : items_match items bytes ≡ star_from (items_match later) left
  pub beyond : left ≡ drop (length bytes - length left) bytes
  pub needs : (others : List ℕ) → items_match items others ≡ true
      → star_from (items_match later) (drop (length bytes - length left) others) ≡ true

-- what the items up to a run of any bytes come to
abbrev pub RunGives : ℕ → Outcome → List ℕ → List ℕ → Type 0
RunGives unclosed outcome.Matches text bytes = items_match (all_items text) bytes ≡ true
RunGives unclosed outcome.Fails text bytes = items_match (all_items text) bytes ≡ false
RunGives unclosed (outcome.Run rest left) text bytes =
    Leads (all_items text) bytes (all_items rest.now) left.now × Settled unclosed rest.now
    × (length rest.now < length text) × (length left.now ≤ length bytes)

-- what an item, and the items of a text after it, come to after a run of any bytes
abbrev pub SearchGives : ℕ → Outcome → Item → List ℕ → List ℕ → Type 0
SearchGives unclosed outcome.Matches item text bytes =
    star_from (items_match (item ∷ all_items text)) bytes ≡ true
SearchGives unclosed outcome.Fails item text bytes =
    star_from (items_match (item ∷ all_items text)) bytes ≡ false
SearchGives unclosed (outcome.Run rest left) item text bytes =
    (star_from (items_match (item ∷ all_items text)) bytes
    ≡ star_from (items_match (all_items rest.now)) left.now)
    × Settled unclosed rest.now × (length rest.now < length text) × (length left.now ≤ length bytes)
