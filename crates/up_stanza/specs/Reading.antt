-- How a reader goes on in a text.
use Rattle.std.specs.Prelude.{◌≡◌, ℕ, true, List, ◌++◌, length, Option, None, Some, Result, Ok, Err, codes}
use Rattle.std.specs.Str.{bytes_eq}
use Rattle.up_value.specs.declared.fault.TextFault.{TextFault}
use Rattle.up_value.specs.declared.fault.TextFault.TheVariants.{Memory}
use Rattle.up_value.specs.Values.{Bytes}
use Rattle.up_text.specs.declared.token.Token.{Token}
use Rattle.up_text.specs.Commands.{command_marks_at, command_in}
use Rattle.up_text.specs.Places.{Place, Reading, Got, Ended, Fails, reading, place_after, fault_in}
use Rattle.up_stanza.specs.declared.fault.ConfFault.{ConfFault}
use Rattle.up_stanza.specs.declared.fault.FaultCode.{FaultCode}
use Rattle.up_stanza.specs.declared.statement.Next.{Next}
use Rattle.up_stanza.specs.declared.statement.Next.TheVariants as next
use Rattle.up_stanza.specs.declared.stanza.Stanza.{Stanza}
use Rattle.up_stanza.specs.Stanzas.{Found, Readable, expression_by}

-- items that were read, and those after them
abbrev pub items_before : {X : Type 0} → List X → Option (List X) → Option (List X)
items_before xs None = None
items_before xs (Some others) = Some (xs ++ others)

-- and the place after them all
abbrev pub put_before : {X : Type 0} → List X → Found (List X) → Found (List X)
put_before xs None = None
put_before xs (Some statement) = Some (xs ++ statement.0, statement.1)

-- what the next call of a lexer gives, and where it stands then
abbrev pub Continues : Place → Place → Next → Type 0
Continues old new (next.Token token) = reading old ≡ Got token new
Continues old new next.End = reading old ≡ Ended new
Continues old new (next.Refused code) = (fault : TextFault) × (reading old ≡ Fails fault)

-- out of memory at this reading: only where a token stands
abbrev pub LacksMemory : Reading → Type 0
LacksMemory (Got token after) = Unit {0}
LacksMemory (Ended after) = ⊥
LacksMemory (Fails fault) = fault ≡ Memory

-- a part of a stanza is read as it is found
abbrev pub IsFound : {X : Type 0} → Found X → Result X FaultCode → Place → Type 0
IsFound found (Ok x) new = found ≡ Some (x, new)
IsFound found (Err code) new = found ≡ None

-- whether the token `on` is read, and the place after it
abbrev pub HasOn : Reading → Result (Unit {0}) FaultCode → Place → Type 0
HasOn read (Ok done) new = (token : Token) × (read ≡ Got token new)
    × (bytes_eq token.text (codes "on") ≡ true)
HasOn read (Err code) new = expression_by read ≡ None

-- the text of a command is read, or it isn't whole
abbrev pub HasText : Place → Result Bytes FaultCode → Place → Type 0
HasText old (Ok text) new = (fault_in (command_marks_at old) ≡ None)
    × (text ≡ command_in (command_marks_at old)) × (new ≡ place_after (length (command_marks_at old)) old)
HasText old (Err code) new = (fault : TextFault) × (fault_in (command_marks_at old) ≡ Some fault)

-- stanzas that were read, and those after them
abbrev pub stanzas_before : List Stanza → Readable → Readable
stanzas_before stanzas readable = (stanzas ++ readable.0, readable.1)

-- a file is read as its stanzas, or refused at its line
abbrev pub IsConf : Result (List Stanza) ℕ → Result (List Stanza) ConfFault → Type 0
IsConf conf (Ok stanzas) = conf ≡ Ok stanzas
IsConf conf (Err fault) = conf ≡ Err fault.line
