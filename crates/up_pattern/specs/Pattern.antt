-- What patterns admit, by fnmatch(3), where `/` and a leading dot are bytes like any other.
use Rattle.std.specs.Prelude.{ℕ, zero, suc, ◌+◌, ◌==◌, nat_le, Bool, true, false, not, ◌&&◌, ◌||◌, if◌then◌else◌, List, [], ◌∷◌, length, drop, map, Option, None, Some, is_some}
use Rattle.std.specs.List.{list_any, flat_map}
use Rattle.up_pattern.specs.Lists.{begins}
use Rattle.up_pattern.specs.declared.pattern.Symbol.{Symbol}
use Rattle.up_pattern.specs.declared.pattern.Symbol.TheVariants.{Bare, Escaped, Trailing}

-- the symbols of a pattern, on from a byte after a backslash or not
abbrev pub symbols_from : Bool → List ℕ → List Symbol
symbols_from false [] = []
symbols_from true [] = Trailing ∷ []
symbols_from false (byte ∷ text) = if byte == 92 then symbols_from true text
    else Bare byte ∷ symbols_from false text
symbols_from true (byte ∷ text) = Escaped byte ∷ symbols_from false text

-- the symbols of a pattern: bytes that stand bare, bytes after a backslash, and perhaps a trailing backslash
unfoldable pub symbols : List ℕ → List Symbol
symbols text = symbols_from false text

-- this byte, bare
abbrev pub is_bare : ℕ → Symbol → Bool
is_bare byte (Bare other) = other == byte
is_bare byte other = false

-- the [ that begins a set
abbrev pub is_open : Symbol → Bool
is_open symbol = is_bare 91 symbol

-- the ] that ends a set
abbrev pub is_close : Symbol → Bool
is_close symbol = is_bare 93 symbol

-- the ! of a set of all other bytes
abbrev pub is_not : Symbol → Bool
is_not symbol = is_bare 33 symbol

-- the - of a range
abbrev pub is_dash : Symbol → Bool
is_dash symbol = is_bare 45 symbol

-- the : . or = after a [ within a set
abbrev pub is_class_mark : Symbol → Bool
is_class_mark symbol = is_bare 58 symbol || is_bare 46 symbol || is_bare 61 symbol

-- the byte that a symbol of a set means; a trailing backslash stands in no closed set
abbrev pub byte_of : Symbol → ℕ
byte_of (Bare byte) = byte
byte_of (Escaped byte) = byte
byte_of Trailing = 92

-- the symbols before the first ]
abbrev pub before_close : List Symbol → List Symbol
before_close [] = []
before_close (symbol ∷ symbols) = if is_close symbol then [] else symbol ∷ before_close symbols

-- what stands in a set, of the symbols after its [ and !: the first symbol, whatever it is, and those up to the next ]
abbrev pub body : List Symbol → List Symbol
body [] = []
body (first ∷ symbols) = first ∷ before_close symbols

-- whether a ] ends the set
abbrev pub is_closed : List Symbol → Bool
is_closed symbols = list_any is_close (drop 1 symbols)

-- whether a [ of a set is followed by : . or =; each [ in a set stands in an item's place
abbrev pub has_class : List Symbol → Bool
has_class [] = false
has_class (symbol ∷ symbols) = (is_open symbol && begins is_class_mark symbols) || has_class symbols

-- the ranges of a set's items: an item before a - that isn't the last reaches to the next item; others are ranges of one byte
abbrev pub ranges : List Symbol → List (ℕ × ℕ)
ranges [] = []
ranges (low ∷ []) = (byte_of low, byte_of low) ∷ []
ranges (low ∷ dash ∷ []) = (byte_of low, byte_of low) ∷ (byte_of dash, byte_of dash) ∷ []
ranges (low ∷ dash ∷ high ∷ symbols) =
    if is_dash dash then (byte_of low, byte_of high) ∷ ranges symbols
    else (byte_of low, byte_of low) ∷ ranges (dash ∷ high ∷ symbols)

-- an item: any run of bytes; one byte, which is any, this one, or in the ranges (or outside them); what nothing matches; a set
-- with a class, which is unsupported
pub data Item : Type 0 where
  Run : Item
  Any : Item
  Only : (byte : ℕ) → Item
  Among : (inverted : Bool) → (ranges : List (ℕ × ℕ)) → Item
  Never : Item
  Class : Item

-- the item of one symbol, where a [ stands for itself
abbrev pub lone_item : Symbol → Item
lone_item (Bare byte) = if byte == 42 then Run else (if byte == 63 then Any else Only byte)
lone_item (Escaped byte) = Only byte
lone_item Trailing = Never

-- a set's symbols, after the [ and perhaps the !
abbrev pub inner : List Symbol → List Symbol
inner symbols = if begins is_not symbols then drop 1 symbols else symbols

-- the item that a [ before these symbols begins; one whose set isn't closed stands for itself
abbrev pub set_item : List Symbol → Item
set_item symbols =
    if has_class (body (inner symbols)) then Class
    else (if is_closed (inner symbols) then Among (begins is_not symbols) (ranges (body (inner symbols)))
    else Only 91)

-- the item that this symbol before these begins
abbrev pub item_of : Symbol → List Symbol → Item
item_of symbol symbols = if is_open symbol then set_item symbols else lone_item symbol

-- how many more symbols an item takes: a set those up to its ]
abbrev pub more : Item → List Symbol → ℕ
more (Among inverted ranges) symbols = (if begins is_not symbols then 1
    else 0) + (length (body (inner symbols)) + 1)
more other symbols = 0

-- the items of these symbols, of which the first few belong to an item before
abbrev pub items_from : ℕ → List Symbol → List Item
items_from taken [] = []
items_from zero (symbol ∷ symbols) = item_of symbol symbols
    ∷ items_from (more (item_of symbol symbols) symbols) symbols
items_from (suc taken) (symbol ∷ symbols) = items_from taken symbols

-- the items as they are read, supported or not
unfoldable pub all_items : List ℕ → List Item
all_items text = items_from 0 (symbols text)

-- a set with a class
abbrev pub is_class : Item → Bool
is_class Class = true
is_class other = false

-- the items of a pattern, if it is supported
unfoldable pub items : List ℕ → Option (List Item)
items pattern = if list_any is_class (all_items pattern) then None else Some (all_items pattern)

-- whether one of the ranges has the byte
abbrev pub is_among : ℕ → List (ℕ × ℕ) → Bool
is_among byte ranges = list_any (λ range. nat_le range.0 byte && nat_le byte range.1) ranges

-- whether an item of one byte admits this one
abbrev pub admits_byte : Item → ℕ → Bool
admits_byte Any byte = true
admits_byte (Only other) byte = other == byte
admits_byte (Among inverted ranges) byte =
    if inverted then not (is_among byte ranges) else is_among byte ranges
admits_byte other byte = false

-- whether it is one byte that the item admits
abbrev pub is_byte_of : Item → List ℕ → Bool
is_byte_of item [] = false
is_byte_of item (byte ∷ []) = admits_byte item byte
is_byte_of item (byte ∷ next ∷ bytes) = false

-- whether an item admits a piece of the bytes
abbrev pub admits : Item → List ℕ → Bool
admits Run piece = true
admits item piece = is_byte_of item piece

-- whether each item admits its piece
abbrev pub all_admit : List Item → List (List ℕ) → Bool
all_admit [] [] = true
all_admit [] (piece ∷ pieces) = false
all_admit (item ∷ rest) [] = false
all_admit (item ∷ rest) (piece ∷ pieces) = admits item piece && all_admit rest pieces

-- the ways to cut bytes in two
abbrev pub splits : List ℕ → List (List ℕ × List ℕ)
splits [] = ([], []) ∷ []
splits (byte ∷ bytes) = ([], byte ∷ bytes) ∷ map (λ split. (byte ∷ split.0, split.1)) (splits bytes)

-- the ways to cut bytes into so many pieces
abbrev pub cuts : ℕ → List ℕ → List (List (List ℕ))
cuts zero [] = [] ∷ []
cuts zero (byte ∷ bytes) = []
cuts (suc count) bytes =
    flat_map (λ split. map (λ pieces. split.0 ∷ pieces) (cuts count split.1)) (splits bytes)

-- whether the bytes can be cut into pieces that the items admit, one each
abbrev pub fits : List Item → List ℕ → Bool
fits read bytes = list_any (all_admit read) (cuts (length read) bytes)

-- the same if there may be no items
abbrev pub fits_if : Option (List Item) → List ℕ → Bool
fits_if None bytes = false
fits_if (Some read) bytes = fits read bytes

-- whether a pattern has no class in a set
unfoldable pub supported : List ℕ → Bool
supported pattern = is_some (items pattern)

-- whether a pattern matches the bytes
unfoldable pub glob : List ℕ → List ℕ → Bool
glob pattern bytes = fits_if (items pattern) bytes
