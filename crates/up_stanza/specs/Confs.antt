-- What a job file says, and which of its lines is unreadable (init(5)).
use Rattle.std.specs.Prelude.{ℕ, ◌+◌, Bool, ◌==◌, nat_le, ◌&&◌, not, if◌then◌else◌, List, [], ◌∷◌, length, Option, None, Some, Result, Ok, Err}
use Rattle.std.specs.List.{list_any}
use Rattle.std.specs.Str.{is_utf8}
use Rattle.up_value.specs.Values.{Bytes}
use Rattle.up_text.specs.Places.{start}
use Rattle.up_stanza.specs.declared.stanza.Stanza.{Stanza}
use Rattle.up_stanza.specs.declared.stanza.Stanza.TheVariants.{Env, Export}
use Rattle.up_stanza.specs.Stanzas.{Readable, stanzas_of}

-- bytes that may be read: UTF-8 without the byte 0, 1 MiB at most
unfoldable pub is_readable : Bytes → Bool
is_readable bytes = nat_le (length bytes) 1048576 && not (list_any (λ byte. byte == 0) bytes) && is_utf8 bytes

-- how many keys a stanza sets
abbrev pub keys_set : Stanza → ℕ
keys_set (Env setting) = 1
keys_set stanza = 0

-- how many keys a stanza exports
abbrev pub keys_exported : Stanza → ℕ
keys_exported (Export keys) = length keys
keys_exported stanza = 0

-- how many there are of all stanzas, a repeated one counted each time
abbrev pub total : (Stanza → ℕ) → List Stanza → ℕ
total count [] = 0
total count (stanza ∷ stanzas) = count stanza + total count stanzas

-- a file sets at most 30,000 keys and exports as many
abbrev pub has_few_keys : List Stanza → Bool
has_few_keys stanzas = nat_le (total keys_set stanzas) 30000
    && nat_le (total keys_exported stanzas) 30000

-- the stanzas, but at an unreadable one its line
abbrev pub stanzas_unless : List Stanza → Option ℕ → Result (List Stanza) ℕ
stanzas_unless stanzas None = Ok stanzas
stanzas_unless stanzas (Some line) = Err line

-- if the stanzas up to the first unreadable one have too many keys, the whole file is too large
abbrev pub within_limits : Readable → Result (List Stanza) ℕ
within_limits readable = if has_few_keys readable.0 then stanzas_unless readable.0 readable.1 else Err 1

-- the stanzas of a file, or the line of the fault
unfoldable pub conf_of : Bytes → Result (List Stanza) ℕ
conf_of bytes = if is_readable bytes then within_limits (stanzas_of (start bytes)) else Err 1
