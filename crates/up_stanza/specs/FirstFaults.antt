-- Which line of a job file is at fault, by the grammar (init(5)).
use Rattle.std.specs.Prelude.{◌≡◌, ◌⊎◌, ℕ, true, false, List, [], ◌∷◌}
use Rattle.up_value.specs.Values.{Bytes}
use Rattle.up_text.specs.Places.{Place, start, line_at, is_finished}
use Rattle.up_stanza.specs.declared.stanza.Stanza.{Stanza}
use Rattle.up_stanza.specs.Confs.{is_readable, has_few_keys}
use Rattle.up_stanza.specs.Grammar.{StandsAt, Written}

-- these stanzas stand from a place on, and where they end, on this line, more follows and no stanza stands
abbrev pub StopsAt : Place → List Stanza → ℕ → Type 0
StopsAt place [] line = (is_finished place ≡ false)
    × ((stanza : Stanza) (after : Place) → StandsAt place stanza after → ⊥) × (line ≡ line_at place)
StopsAt place (stanza ∷ stanzas) line =
    (after : Place) × StandsAt place stanza after × StopsAt after stanzas line

-- these are all stanzas of a text, or all before the first unreadable one
abbrev pub IsFront : Place → List Stanza → Type 0
IsFront place stanzas = Written place stanzas ⊎ ((line : ℕ) × StopsAt place stanzas line)

-- a file that is at fault as a whole: its bytes may not be read, or the stanzas before the first unreadable one have too many keys
abbrev pub IsWholeFault : Bytes → Type 0
IsWholeFault bytes =
    (is_readable bytes ≡ false) ⊎ ((is_readable bytes ≡ true) × (stanzas : List Stanza)
    × IsFront (start bytes) stanzas × (has_few_keys stanzas ≡ false))

-- the first unreadable stanza begins on this line
abbrev pub IsUnreadableAt : Bytes → ℕ → Type 0
IsUnreadableAt bytes line = (is_readable bytes ≡ true) × (stanzas : List Stanza)
    × StopsAt (start bytes) stanzas line × (has_few_keys stanzas ≡ true)

-- the line of a file's fault: 1 if the whole file is at fault, and else that of the first unreadable stanza
abbrev pub FirstFault : Bytes → ℕ → Type 0
FirstFault bytes line = (IsWholeFault bytes × (line ≡ 1)) ⊎ IsUnreadableAt bytes line
