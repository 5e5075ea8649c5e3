-- What a token says that is one of a list of arguments (init(5)).
use Rattle.std.specs.Prelude.{if◌then◌else◌, Option, None, Some, option_map, codes}
use Rattle.std.specs.List.{before_first, after_first}
use Rattle.std.specs.Str.{bytes_eq}
use Rattle.up_value.specs.Values.{Bytes}
use Rattle.up_text.specs.Expansion.{is_expandable}
use Rattle.up_text.specs.Names.{is_key, is_equals, has_equals}
use Rattle.up_stanza.specs.declared.exit.Exit.{Exit}
use Rattle.up_stanza.specs.declared.exit.Exit.TheVariants as exit
use Rattle.up_stanza.specs.declared.setting.Setting.{Setting}
use Rattle.up_stanza.specs.declared.stanza.Console.{Console}
use Rattle.up_stanza.specs.declared.stanza.Console.TheVariants as console
use Rattle.up_stanza.specs.Numbers.{are_digits, number_in}
use Rattle.up_stanza.specs.Signals.{signal_named}

-- a key
abbrev pub key_in : Bytes → Option Bytes
key_in text = if is_key text then Some text else None

-- a key with a value, or without one
abbrev pub setting_with : Bytes → Option Bytes → Option Setting
setting_with key value = if is_key key then Some (record { key = key; value = value }) else None

-- KEY=VALUE or KEY
unfoldable pub setting_in : Bytes → Option Setting
setting_in text =
    if has_equals text then setting_with (before_first is_equals text) (Some (after_first is_equals text))
    else setting_with text None

-- a status from 0 to 255, or the name of a signal
abbrev pub exit_in : Bytes → Option Exit
exit_in text = if are_digits text then option_map exit.Status (number_in 0 255 text)
    else option_map exit.Signal (signal_named text)

-- the name of an instance: a good expansion
abbrev pub expandable_in : Bytes → Option Bytes
expandable_in text = if is_expandable text then Some text else None

-- where output goes
abbrev pub console_in : Bytes → Option Console
console_in text =
    if bytes_eq text (codes "none") then Some console.None
    else (if bytes_eq text (codes "log") then Some console.Log
    else (if bytes_eq text (codes "output") then Some console.Output
    else None))
