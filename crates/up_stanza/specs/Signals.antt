-- The signals that a job file may name (signal(7)).
use Rattle.std.specs.Prelude.{ℕ, ◌+◌, ◌-◌, ◌==◌, Bool, nat_le, nat_eq, ◌&&◌, if◌then◌else◌, List, [], ◌∷◌, drop, Option, None, option_map, position, slice_get, codes}
use Rattle.std.specs.List.{starts_with}
use Rattle.std.specs.Str.{bytes_eq}
use Rattle.up_value.specs.Values.{Bytes}
use Rattle.up_stanza.specs.Numbers.{are_digits, number_in}

-- the names of the signals, from 1 on
abbrev pub names : List Bytes
names =
    codes "HUP" ∷ codes "INT" ∷ codes "QUIT" ∷ codes "ILL" ∷ codes "TRAP" ∷ codes "ABRT" ∷ codes "BUS"
    ∷ codes "FPE" ∷ codes "KILL" ∷ codes "USR1" ∷ codes "SEGV"
    ∷ codes "USR2" ∷ codes "PIPE" ∷ codes "ALRM" ∷ codes "TERM" ∷ codes "STKFLT" ∷ codes "CHLD"
    ∷ codes "CONT" ∷ codes "STOP" ∷ codes "TSTP" ∷ codes "TTIN" ∷ codes "TTOU"
    ∷ codes "URG" ∷ codes "XCPU" ∷ codes "XFSZ" ∷ codes "VTALRM" ∷ codes "PROF" ∷ codes "WINCH" ∷ codes "IO"
    ∷ codes "PWR" ∷ codes "SYS" ∷ []

-- HUP
abbrev pub hup : ℕ
hup = 1

-- TERM
abbrev pub term : ℕ
term = 15

-- the number of a signal
abbrev pub is_signal : ℕ → Bool
is_signal number = nat_le 1 number && nat_le number 31

-- the name of the signal with this number, if there is one
unfoldable pub name_of : ℕ → Option Bytes
name_of number = if number == 0 then None else slice_get names (number - 1)

-- the number of the signal with this name
unfoldable pub number_of : Bytes → Option ℕ
number_of name = option_map (λ place. place + 1) (position (λ known. bytes_eq known name) names)

-- a text without the SIG that it begins with
unfoldable pub without_sig : Bytes → Bytes
without_sig text = if starts_with nat_eq text (codes "SIG") then drop 3 text else text

-- the signal of this name, with or without SIG
abbrev pub signal_named : Bytes → Option ℕ
signal_named text = number_of (without_sig text)

-- the signal that a text says: a name, or a number
abbrev pub signal_in : Bytes → Option ℕ
signal_in text = if are_digits text then number_in 1 31 text else signal_named text
