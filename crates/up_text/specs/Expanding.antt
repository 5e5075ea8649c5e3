-- What the code that expands a text reads and writes at a time.
use Rattle.std.specs.Prelude.{◌≡◌, ◌⊎◌, ℕ, ◌+◌, ◌-◌, ◌==◌, if◌then◌else◌, List, [], ◌∷◌, map, drop, Option, None, Some, option_map, Result, Ok, Err}
use Rattle.up_text.specs.Expansion.{Sign, Plain, Named, Braced, Opened, Closing, Wrong, Parts, Done, Byte, Key, before, with_default, texts_of, Expansion, Expands, Lacks, Malformed, then_expansion, meaning}
use Rattle.up_text.specs.declared.expansion.Expanded.{Expanded}
use Rattle.up_text.specs.declared.expansion.Expanded.TheVariants as expanded
use Rattle.up_text.specs.declared.expansion.Given.{Given}
use Rattle.up_text.specs.declared.expansion.Given.TheVariants as given
use Rattle.up_text.specs.declared.expansion.Piece.{Piece}
use Rattle.up_text.specs.declared.expansion.Piece.TheVariants as piece
use Rattle.up_value.specs.declared.fault.TextFault.{TextFault}
use Rattle.up_value.specs.declared.fault.TextFault.TheVariants.{BadExpansion, Memory}
use Rattle.up_value.specs.Values.{Bytes, Bindings}

-- what an expansion gives: its text or the key that it lacks, or the fault of memory; a malformed text is refused
abbrev pub Gives : Expansion → Result Expanded TextFault → Type 0
Gives (Expands text) result = (result ≡ Ok (expanded.Text text)) ⊎ (result ≡ Err Memory)
Gives (Lacks key) result = (result ≡ Ok (expanded.Unset key)) ⊎ (result ≡ Err Memory)
Gives Malformed result = result ≡ Err BadExpansion

-- the signs of a piece
abbrev pub signs_of : Piece → List Sign
signs_of (piece.Run run) = map (λ byte. Plain byte) run.now
signs_of (piece.Named key) = Named key.now ∷ []
signs_of (piece.Braced key) = Braced key.now ∷ []
signs_of (piece.Opened key emptied) = Opened key.now emptied ∷ []
signs_of piece.Closing = Closing ∷ []
signs_of piece.Wrong = Wrong ∷ []

-- bytes before the innermost text
abbrev pub run_before : Bytes → List Parts → List Parts
run_before [] texts = texts
run_before (byte ∷ run) texts = before (Byte byte) (run_before run texts)

-- a piece before the texts after it, at the depth where it stands
abbrev pub piece_before : ℕ → Piece → List Parts → List Parts
piece_before depth (piece.Run run) texts = run_before run.now texts
piece_before depth (piece.Named key) texts = before (Key key.now) texts
piece_before depth (piece.Braced key) texts = before (Key key.now) texts
piece_before depth (piece.Opened key emptied) texts = with_default key.now emptied texts
piece_before depth piece.Closing texts = if depth == 0 then before (Byte 125) texts else Done ∷ texts
piece_before depth piece.Wrong texts = texts

-- what a piece and the signs after it say, by the depth after it
abbrev pub piece_texts : ℕ → Piece → List Sign → Option ℕ → Option (List Parts)
piece_texts depth piece later None = None
piece_texts depth piece later (Some deeper) = option_map (piece_before depth piece) (texts_of deeper later)

-- how many texts are open after a piece, by how many were
abbrev pub depth_after : ℕ → Piece → ℕ
depth_after depth (piece.Opened key emptied) = depth + 1
depth_after depth piece.Closing = depth - 1
depth_after depth other = depth

-- how many texts a piece opens
abbrev pub texts_opened : Piece → ℕ
texts_opened (piece.Opened key emptied) = 1
texts_opened other = 0

-- texts that stand in each other, one after another
abbrev pub meanings : Bindings → List Parts → Expansion
meanings env [] = Expands []
meanings env (text ∷ outer) = then_expansion (meaning env text) (meanings env outer)

-- what a piece gives before any texts: bytes, and the text that it opens isn't needed; only that text; or a key that is lacking
abbrev pub IsGiven : Bindings → ℕ → Piece → Given → Type 0
IsGiven env depth piece (given.Text text) =
    (texts : List Parts) → meanings env (piece_before depth piece texts)
    ≡ then_expansion (Expands text.now) (meanings env (drop (texts_opened piece) texts))
IsGiven env depth piece given.Default =
    (texts : List Parts) → meanings env (piece_before depth piece texts) ≡ meanings env texts
IsGiven env depth piece (given.Lacks key) =
    (texts : List Parts) → meanings env (piece_before depth piece texts) ≡ Lacks key.now
