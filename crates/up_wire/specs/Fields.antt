-- The fields of a payload, read one after another: a field and the bytes after it.
use Rattle.std.specs.Prelude.{◌≡◌, ◌==◌, ◌&&◌, ℕ, zero, suc, Bool, true, false, nat_le, [], ◌∷◌, length, take, drop, Option, None, Some, option_and_then, is_none, if◌then◌else◌, Result, Ok, Err}
use Rattle.std.specs.Str.{is_utf8}
use Rattle.byteorder.specs.Endian.{big_number}
use Rattle.up_text.specs.Names.{is_key, is_value}
use Rattle.up_text.specs.Bindings.{value_of, set_in}
use Rattle.up_model.specs.Requests.{RequestValue, is_request}
use Rattle.up_model.specs.declared.request.Command.{Command}
use Rattle.up_model.specs.declared.request.Command.TheVariants as command
use Rattle.up_wire.specs.declared.fault.WireFault.{WireFault}
use Rattle.up_wire.specs.declared.fault.WireFault.TheVariants.{FrameTooLarge, BadFrame, BadWord, Memory}
use Rattle.up_model.specs.Values.{Bytes, Bindings}

abbrev pub byte_at : Bytes → Option (ℕ × Bytes)
byte_at [] = None
byte_at (byte ∷ bytes) = Some (byte, bytes)

abbrev pub number_at : ℕ → Bytes → Option (ℕ × Bytes)
number_at n bytes = if nat_le n (length bytes) then Some (big_number n bytes, drop n bytes) else None

-- the first bytes, as many as there must be
abbrev pub split_at : ℕ × Bytes → Option (Bytes × Bytes)
split_at counted = if nat_le counted.0 (length counted.1)
    then Some (take counted.0 counted.1, drop counted.0 counted.1) else None

abbrev pub if_text : Bytes × Bytes → Option (Bytes × Bytes)
if_text found = if is_utf8 found.0 then Some found else None

unfoldable pub text_at : Bytes → Option (Bytes × Bytes)
text_at bytes = option_and_then (λ counted. option_and_then if_text (split_at counted)) (number_at 2 bytes)

-- variables with one more, if it may be there
abbrev pub with_variable : Bindings → Bytes → Bytes × Bytes → Option (Bindings × Bytes)
with_variable vars key value =
    if is_key key && is_value value.0 && is_none (value_of key vars)
    then Some (set_in key value.0 vars, value.1) else None

unfoldable pub variable_at : Bindings → Bytes → Option (Bindings × Bytes)
variable_at vars bytes =
    option_and_then (λ key. option_and_then (with_variable vars key.0) (text_at key.1)) (text_at bytes)

abbrev pub variables_at : ℕ → Bindings → Bytes → Option (Bindings × Bytes)
variables_at zero vars bytes = Some (vars, bytes)
variables_at (suc count) vars bytes =
    option_and_then (λ more. variables_at count more.0 more.1) (variable_at vars bytes)

-- a command by its byte
abbrev pub command_of : ℕ → Option Command
command_of byte =
    if byte == 1 then Some command.Start
    else (if byte == 2 then Some command.Stop
    else (if byte == 3 then Some command.Restart
    else (if byte == 4 then Some command.Status
    else (if byte == 5 then Some command.List
    else (if byte == 6 then Some command.Emit
    else (if byte == 7 then Some command.Reload
    else (if byte == 8 then Some command.ReloadConfiguration
    else (if byte == 9 then Some command.Version
    else None))))))))

abbrev pub wait_of : ℕ → Option Bool
wait_of byte = if byte == 0 then Some true else (if byte == 1 then Some false else None)

-- the request of these parts, if nothing follows them and they are one
abbrev pub if_request : Command → Bool → Bytes → Bindings × Bytes → Option RequestValue
if_request its wait name (vars, []) =
    if is_request its wait name vars then Some (record {
      command = its;
      wait = wait;
      name = name;
      vars =
          vars;
    }) else None
if_request its wait name (vars, byte ∷ bytes) = None

-- the name and the variables of a request
unfoldable pub about_at : Command → Bool → Bytes → Option RequestValue
about_at its wait bytes =
    option_and_then (λ name. option_and_then
    (λ count. option_and_then (if_request its wait name.0) (variables_at count.0 [] count.1))
    (number_at 2 name.1)) (text_at bytes)

-- the request that a payload has
unfoldable pub request_in : Bytes → Option RequestValue
request_in bytes =
    option_and_then (λ first. option_and_then
    (λ its. option_and_then (λ second. option_and_then (λ wait. about_at its wait second.1)
    (wait_of second.0)) (byte_at first.1)) (command_of first.0)) (byte_at bytes)

-- what a refused reading says: out of memory nothing, else that there is nothing to read
abbrev pub Refuses : {Y : Type 0} → WireFault → Option Y → Type 0
Refuses Memory read = Unit {0}
Refuses BadFrame read = read ≡ None
Refuses FrameTooLarge read = ⊥
Refuses BadWord read = ⊥

-- what was returned, seen by a view, is what reading says
abbrev pub Reads : {X Y : Type 0} → (X → Y) → Result X WireFault → Option Y → Type 0
Reads view (Ok x) read = read ≡ Some (view x)
Reads view (Err fault) read = Refuses fault read
