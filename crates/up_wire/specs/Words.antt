-- The request that a command's words are.
use Rattle.std.specs.Prelude.{◌≡◌, ◌&&◌, Bool, false, not, List, [], ◌∷◌, Option, None, Some, option_and_then, unwrap_or, codes, if◌then◌else◌, Result, Ok, Err}
use Rattle.std.specs.List.{before_first, after_first}
use Rattle.std.specs.Option.{option_map_or}
use Rattle.std.specs.Str.{bytes_eq}
use Rattle.clap.specs.Words.{Row, first_of, all_of, one_of}
use Rattle.up_text.specs.Names.{has_equals, is_equals, is_key, is_value}
use Rattle.up_text.specs.Bindings.{set_in}
use Rattle.up_model.specs.Requests.{RequestValue, command_named, is_request}
use Rattle.up_model.specs.declared.request.Command.{Command}
use Rattle.up_wire.specs.declared.fault.WireFault.{WireFault}
use Rattle.up_wire.specs.declared.fault.WireFault.TheVariants.{FrameTooLarge, BadFrame, BadWord, Memory}
use Rattle.up_model.specs.Values.{Bytes, Bindings}

-- variables with one more; a key that is there takes the new value
abbrev pub with_binding : Bytes → Bytes → Bindings → Option Bindings
with_binding key value vars = if is_key key && is_value value then Some (set_in key value vars) else None

-- variables with that of a word KEY=VALUE, which is cut at its first `=`
abbrev pub with_word : Bytes → Bindings → Option Bindings
with_word word vars =
    if has_equals word
    then with_binding (before_first is_equals word) (after_first is_equals word) vars else None

-- whether a word is KEY=VALUE
abbrev pub is_binding : Bytes → Bool
is_binding word =
    has_equals word
    && (is_key (before_first is_equals word) && is_value (after_first is_equals word))

-- variables with those of words, each set in turn
abbrev pub with_words : Bindings → List Bytes → Option Bindings
with_words vars [] = Some vars
with_words vars (word ∷ words) = option_and_then (λ more. with_words more words) (with_word word vars)

-- the request of these parts, if they are one
abbrev pub if_sound : Command → Bool → Bytes → Bindings → Option RequestValue
if_sound its wait name vars =
    if is_request its wait name vars then Some (record {
      command = its;
      wait = wait;
      name = name;
      vars =
          vars;
    }) else None

-- the request of a command, with its name and the words after it
abbrev pub request_with : Command → Bool → Bytes → List Bytes → Option RequestValue
request_with its wait name words = option_and_then (if_sound its wait name) (with_words [] words)

-- whether a flag was given
abbrev pub is_set : Bytes → List Row → Bool
is_set id rows = option_map_or (λ text. bytes_eq text (codes "true")) (one_of id rows) false

-- the text of an argument, empty if it wasn't given
abbrev pub text_in : Bytes → List Row → Bytes
text_in id rows = unwrap_or (first_of id rows) []

-- the texts of an argument, none if it wasn't given
abbrev pub texts_in : Bytes → List Row → List Bytes
texts_in id rows = unwrap_or (all_of id rows) []

-- the request of a command, of which this was matched
abbrev pub request_in : List Row → Command → Option RequestValue
request_in rows its =
    request_with its (not (is_set (codes "no-wait") rows)) (text_in (codes "NAME") rows)
    (texts_in (codes "VARS") rows)

-- the request of the word that was matched as a command, and of what was matched after it
abbrev pub request_matched : Option (Bytes × List Row) → Option RequestValue
request_matched None = None
request_matched (Some (word, rows)) = option_and_then (request_in rows) (command_named word)

-- what was made of words: the request that they are, or the refusal of words that are none; out of memory nothing is said of them
abbrev pub Makes : {Y : Type 0} → Result Y WireFault → Option Y → Type 0
Makes (Ok made) wanted = wanted ≡ Some made
Makes (Err BadWord) wanted = wanted ≡ None
Makes (Err Memory) wanted = Unit {0}
Makes (Err FrameTooLarge) wanted = ⊥
Makes (Err BadFrame) wanted = ⊥

-- the same, of variables that are changed in place
abbrev pub Sets : Result Unit WireFault → Bindings → Option Bindings → Type 0
Sets (Ok done) vars wanted = wanted ≡ Some vars
Sets (Err BadWord) vars wanted = wanted ≡ None
Sets (Err Memory) vars wanted = Unit {0}
Sets (Err FrameTooLarge) vars wanted = ⊥
Sets (Err BadFrame) vars wanted = ⊥
