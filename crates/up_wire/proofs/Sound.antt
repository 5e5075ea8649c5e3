-- When words are a request.
use Rattle.std.proofs.Common.{◌≡◌, ◌&&◌, ◌||◌, ◌∙◌, Bool, true, false, List, [], ◌∷◌, Option, None, Some, cond, option_and_then, is_some, length, nat_lt, refl}
use Rattle.std.specs.List.{list_all, position_or_len, before_first, after_first}
use Rattle.up_text.specs.Names.{is_equals, is_key, is_name, is_value}
use Rattle.up_text.specs.Bindings.{set_in}
use Rattle.up_model.specs.Requests.{RequestValue, is_alone, is_request, may_wait}
use Rattle.up_model.specs.declared.request.Command.{Command}
use Rattle.up_model.specs.Values.{Bytes, Bindings}
use Rattle.up_wire.specs.Words.{if_sound, is_binding, request_with, with_words}

step : (cut sound rest : Bool) (next : Bindings) (go : Bindings → Option Bindings) → is_some (go next) ≡ rest → is_some (option_and_then go (cond cut (cond sound (Some next) None) None)) ≡ ((cut && sound) && rest)
step true true rest next go h = h
step true false rest next go h = refl
step false sound rest next go h = refl

words_some : (words : List Bytes) (vars : Bindings) → is_some (with_words vars words) ≡ list_all is_binding words
words_some [] vars = refl
words_some (word ∷ words) vars =
    let next = set_in (before_first is_equals word) (after_first is_equals word) vars in
    step (nat_lt (position_or_len is_equals word) (length word)) (is_key (before_first is_equals word) && is_value (after_first is_equals word)) (list_all is_binding words) next (λ more. with_words more words) (words_some words next)

last : (found : Option Bindings) (name all : Bool) (go : Bindings → Option RequestValue) → is_some found ≡ all → ((vars : Bindings) → is_some (go vars) ≡ name) → is_some (option_and_then go found) ≡ (name && all)
last None true all go h k = h
last None false all go h k = refl
last (Some vars) true all go h k = k vars ∙ h
last (Some vars) false all go h k = k vars

sound_some : (its : Command) (wait : Bool) (name : Bytes) (vars : Bindings) (b : Bool) → is_request its wait name vars ≡ b → is_some (if_sound its wait name vars) ≡ b
sound_some its wait name vars true h = rw h refl
sound_some its wait name vars false h = rw h refl

pub sound_words : (its : Command) (wait : Bool) (name : Bytes) (words : List Bytes) → is_alone its ≡ false → (wait || may_wait its) ≡ true → is_some (request_with its wait name words) ≡ (is_name name && list_all is_binding words)
sound_words its wait name words alone waits =
    last (with_words [] words) (is_name name) (list_all is_binding words) (if_sound its wait name) (words_some words []) (λ vars. sound_some its wait name vars (is_name name) (rw (alone, waits) refl))
