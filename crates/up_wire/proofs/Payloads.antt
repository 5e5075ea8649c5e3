-- A payload has a request exactly if it is that request's.
use Rattle.std.proofs.Common.{◌≡◌, ◌==◌, ◌<◌, ◌≤◌, ◌+◌, ℕ, Bool, true, false, [], ◌∷◌, ◌++◌, length, Option, Some, cond, option_and_then, refl, sym, ap, ◌∙◌, length-append, arith}
use Rattle.std.specs.List.{list_all, flat_map}
use Rattle.std.specs.Str.{is_utf8}
use Rattle.std.proofs.lemmas.Bool.{and_parts}
use Rattle.std.proofs.lemmas.Bool.Decides.{nat_tests}
use Rattle.std.proofs.lemmas.Option.{cond_some, option_and_then_some, none-some}
use Rattle.std.proofs.lemmas.List.{append_assoc, append-nil}
use Rattle.byteorder.specs.Endian.{big_bytes}
use Rattle.up_text.specs.Bindings.{are_bindings}
use Rattle.up_model.specs.Requests.{RequestValue, is_request}
use Rattle.up_model.specs.declared.request.Command.{Command}
use Rattle.up_model.specs.declared.request.Command.TheVariants as command
use Rattle.up_model.specs.Values.{Bytes, Bindings}
use Rattle.up_wire.specs.Frames.{short_text, variable, command_number, wait_number, payload_of, are_texts, IsSendable}
use Rattle.up_wire.specs.Octets.{AreOctets}
use Rattle.up_wire.specs.Fields.{number_at, text_at, variables_at, command_of, wait_of, if_request, about_at, request_in}
use Rattle.up_wire.proofs.Numbers.{Takes, number_takes, number_again}
use Rattle.up_wire.proofs.Texts.{text_takes, text_again}
use Rattle.up_wire.proofs.Reading.{is_text_pair, takes_two, variables_take, variables_again}

-- a byte is that of a command, or else the others decide
next : (n : ℕ) (its : Command) (others : Option Command) (byte : ℕ) (found : Command) → command_number its ≡ n → cond (byte == n) (Some its) others ≡ Some found → (others ≡ Some found → byte ≡ command_number found) → byte ≡ command_number found
next n its others byte found number h rest = by_case (byte == n) refl h
  where
    by_case : (same : Bool) → (byte == n) ≡ same → cond same (Some its) others ≡ Some found → byte ≡ command_number found
    by_case true same chosen =
        let one : byte ≡ n = grind (arith, nat_tests, same) in
        let which : its ≡ found = (cond_some true its found chosen).1 in
        one ∙ (sym number ∙ ap command_number which)
    by_case false same chosen = rest chosen

pub command_takes : (byte : ℕ) (found : Command) → command_of byte ≡ Some found → byte ≡ command_number found
command_takes byte found h =
    next 1 command.Start _ byte found refl h (λ h2.
    next 2 command.Stop _ byte found refl h2 (λ h3.
    next 3 command.Restart _ byte found refl h3 (λ h4.
    next 4 command.Status _ byte found refl h4 (λ h5.
    next 5 command.List _ byte found refl h5 (λ h6.
    next 6 command.Emit _ byte found refl h6 (λ h7.
    next 7 command.Reload _ byte found refl h7 (λ h8.
    next 8 command.ReloadConfiguration _ byte found refl h8 (λ h9.
    next 9 command.Version _ byte found refl h9 (λ none. absurd (none-some found none))))))))))

pub command_again : (its : Command) → command_of (command_number its) ≡ Some its
command_again command.Start = refl
command_again command.Stop = refl
command_again command.Restart = refl
command_again command.Status = refl
command_again command.List = refl
command_again command.Emit = refl
command_again command.Reload = refl
command_again command.ReloadConfiguration = refl
command_again command.Version = refl

next_wait : (n : ℕ) (wait : Bool) (others : Option Bool) (byte : ℕ) (found : Bool) → wait_number wait ≡ n → cond (byte == n) (Some wait) others ≡ Some found → (others ≡ Some found → byte ≡ wait_number found) → byte ≡ wait_number found
next_wait n wait others byte found number h rest = by_case (byte == n) refl h
  where
    by_case : (same : Bool) → (byte == n) ≡ same → cond same (Some wait) others ≡ Some found → byte ≡ wait_number found
    by_case true same chosen =
        let one : byte ≡ n = grind (arith, nat_tests, same) in
        let which : wait ≡ found = (cond_some true wait found chosen).1 in
        one ∙ (sym number ∙ ap wait_number which)
    by_case false same chosen = rest chosen

pub wait_takes : (byte : ℕ) (found : Bool) → wait_of byte ≡ Some found → byte ≡ wait_number found
wait_takes byte found h =
    next_wait 0 true _ byte found refl h (λ h2. next_wait 1 false _ byte found refl h2 (λ none. absurd (none-some found none)))

pub wait_again : (wait : Bool) → wait_of (wait_number wait) ≡ Some wait
wait_again true = refl
wait_again false = refl

-- what a payload that was read is
pub record IsPayload (bytes : Bytes) (request : RequestValue) : Type 0 where
  pub whole : bytes ≡ payload_of request
  pub sound : is_request request.command request.wait request.name request.vars ≡ true
  pub bindings : are_bindings request.vars ≡ true
  pub texts : are_texts request ≡ true

request_parts : (its : Command) (wait : Bool) (name : Bytes) (vars : Bindings) (left : Bytes) (request : RequestValue) → if_request its wait name (vars, left) ≡ Some request → (left ≡ []) × (is_request its wait name vars ≡ true) × (record { command = its; wait = wait; name = name; vars = vars } ≡ request)
request_parts its wait name vars [] request h =
    let parts = cond_some (is_request its wait name vars) (record { command = its; wait = wait; name = name; vars = vars }) request h in
    (refl, parts.0, parts.1)
request_parts its wait name vars (byte ∷ left) request h = absurd (none-some request h)

about_whole : (its : Command) (wait : Bool) (bytes name after after_count left : Bytes) (vars : Bindings) (count : ℕ) → Takes bytes (short_text name) after → Takes after (big_bytes 2 count) after_count → Takes after_count (flat_map variable vars) left → left ≡ [] → length vars ≡ count → command_number its ∷ wait_number wait ∷ bytes ≡ payload_of (record { command = its; wait = wait; name = name; vars = vars })
unfolding payload_of
about_whole its wait bytes name after after_count left vars count p q r none same =
    let both = takes_two bytes (short_text name) (big_bytes 2 count) after after_count p q in
    let all = takes_two bytes (short_text name ++ big_bytes 2 count) (flat_map variable vars) after_count left both r in
    let exact : bytes ≡ short_text name ++ big_bytes 2 (length vars) ++ flat_map variable vars = rw (same) (all.0 ∙ (ap (λ x. short_text name ++ big_bytes 2 count ++ flat_map variable vars ++ x) none ∙ append-nil _)) in
    ap (λ x. command_number its ∷ wait_number wait ∷ x) exact

about_takes : (its : Command) (wait : Bool) (bytes : Bytes) (request : RequestValue) → AreOctets bytes → about_at its wait bytes ≡ Some request → IsPayload (command_number its ∷ wait_number wait ∷ bytes) request
unfolding about_at
about_takes its wait bytes request are h =
    option_and_then_some _ (text_at bytes) request h (λ name read_name h2.
    option_and_then_some _ (number_at 2 name.1) request h2 (λ count read_count h3.
    option_and_then_some _ (variables_at count.0 [] count.1) request h3 (λ found read_vars last.
    let its_name = text_takes bytes name are read_name in
    let its_count = number_takes name.1 count.0 count.1 its_name.taken.1 read_count in
    let its_vars = variables_take count.0 [] count.1 found its_count.0.1 read_vars in
    let parts = request_parts its wait name.0 found.0 found.1 request last in
    let same : found.0 ≡ its_vars.added = its_vars.more_is in
    let taken : Takes count.1 (flat_map variable found.0) found.1 = rw same its_vars.taken in
    let size : length found.0 ≡ count.0 = rw same its_vars.count_is in
    let valid : list_all is_text_pair found.0 ≡ true = rw same its_vars.texts in
    rw (← parts.2) (record {
      whole = about_whole its wait bytes name.0 name.1 count.1 found.1 found.0 count.0 its_name.taken its_count.0 taken parts.0 size;
      sound = parts.1;
      bindings = its_vars.bound refl;
      texts = rw (its_name.valid, valid) refl;
    }))))

payload_by : (first second : ℕ) (bytes : Bytes) (its : Command) (wait : Bool) (request : RequestValue) → first ≡ command_number its → second ≡ wait_number wait → IsPayload (command_number its ∷ wait_number wait ∷ bytes) request → IsPayload (first ∷ second ∷ bytes) request
payload_by first second bytes its wait request p q h = rw (p, q) h

-- a request that is read is the payload's
pub request_takes : (bytes : Bytes) (request : RequestValue) → AreOctets bytes → request_in bytes ≡ Some request → IsPayload bytes request
unfolding request_in
request_takes [] request are h = absurd (none-some request h)
request_takes (first ∷ []) request are h =
    option_and_then_some _ (command_of first) request h (λ its read_its h2. absurd (none-some request h2))
request_takes (first ∷ second ∷ bytes) request are h =
    option_and_then_some _ (command_of first) request h (λ its read_its h2.
    option_and_then_some _ (wait_of second) request h2 (λ wait read_wait h3.
    payload_by first second bytes its wait request (command_takes first its read_its) (wait_takes second wait read_wait) (about_takes its wait bytes request are.1.1 h3)))

-- there are no more variables than bytes
pub vars_within : (vars : Bindings) → length vars ≤ length (flat_map variable vars)
vars_within [] = omega arith
vars_within (binding ∷ vars) =
    let size : length (flat_map variable (binding ∷ vars)) ≡ length (variable binding) + length (flat_map variable vars) = length-append (variable binding) (flat_map variable vars) in
    let one : length (variable binding) ≡ length (short_text binding.0) + length (short_text binding.1) = length-append (short_text binding.0) (short_text binding.1) in
    omega (arith, size, one, vars_within vars)

-- how long a payload is
pub length-payload_of : (request : RequestValue) → length (payload_of request) ≡ 6 + length request.name + length (flat_map variable request.vars)
unfolding payload_of
length-payload_of request =
    let front : length (request.name ++ big_bytes 2 (length request.vars)) ≡ length request.name + 2 = length-append request.name (big_bytes 2 (length request.vars)) in
    let all : length (request.name ++ big_bytes 2 (length request.vars) ++ flat_map variable request.vars) ≡ length (request.name ++ big_bytes 2 (length request.vars)) + length (flat_map variable request.vars) = length-append (request.name ++ big_bytes 2 (length request.vars)) (flat_map variable request.vars) in
    omega (arith, front, all)

about_grouped : (its : Command) (wait : Bool) (name : Bytes) (vars : Bindings) → length name < 65536 → length (flat_map variable vars) < 65536 → is_utf8 name ≡ true → list_all is_text_pair vars ≡ true → are_bindings vars ≡ true → is_request its wait name vars ≡ true → about_at its wait (short_text name ++ (big_bytes 2 (length vars) ++ flat_map variable vars)) ≡ Some (record { command = its; wait = wait; name = name; vars = vars })
unfolding about_at
about_grouped its wait name vars short_name short_vars valid texts bindings sound =
    let nothing : flat_map variable vars ≡ flat_map variable vars ++ [] = sym (append-nil (flat_map variable vars)) in
    ap (λ found. option_and_then (λ its_name. option_and_then (λ count. option_and_then (if_request its wait its_name.0) (variables_at count.0 [] count.1)) (number_at 2 its_name.1)) found) (text_again name (big_bytes 2 (length vars) ++ flat_map variable vars) short_name valid)
    ∙ (ap (λ found. option_and_then (λ count. option_and_then (if_request its wait name) (variables_at count.0 [] count.1)) found) (number_again (length vars) (flat_map variable vars) (omega (arith, vars_within vars, short_vars)))
    ∙ (ap (λ bytes. option_and_then (if_request its wait name) (variables_at (length vars) [] bytes)) nothing
    ∙ (ap (λ found. option_and_then (if_request its wait name) found) (variables_again vars [] [] bindings texts short_vars)
    ∙ rw sound refl)))

about_again : (its : Command) (wait : Bool) (name : Bytes) (vars : Bindings) → length name < 65536 → length (flat_map variable vars) < 65536 → is_utf8 name ≡ true → list_all is_text_pair vars ≡ true → are_bindings vars ≡ true → is_request its wait name vars ≡ true → about_at its wait (short_text name ++ big_bytes 2 (length vars) ++ flat_map variable vars) ≡ Some (record { command = its; wait = wait; name = name; vars = vars })
about_again its wait name vars short_name short_vars valid texts bindings sound =
    ap (about_at its wait) (append_assoc (short_text name) (big_bytes 2 (length vars)) (flat_map variable vars))
    ∙ about_grouped its wait name vars short_name short_vars valid texts bindings sound

-- the payload of a request is read again
pub request_again : (request : RequestValue) → IsSendable request → request_in (payload_of request) ≡ Some request
unfolding request_in payload_of
request_again request h =
    let size = length-payload_of request in
    let texts = and_parts (is_utf8 request.name) (list_all is_text_pair request.vars) h.texts in
    let about = about_again request.command request.wait request.name request.vars (omega (arith, size, h.fits)) (omega (arith, size, h.fits)) texts.0 texts.1 h.bindings h.sound in
    ap (λ its. option_and_then (λ command. option_and_then (λ (second : ℕ × Bytes). option_and_then (λ wait. about_at command wait second.1) (wait_of second.0)) (Some (wait_number request.wait, short_text request.name ++ big_bytes 2 (length request.vars) ++ flat_map variable request.vars))) its) (command_again request.command)
    ∙ (ap (λ waits. option_and_then (λ wait. about_at request.command wait (short_text request.name ++ big_bytes 2 (length request.vars) ++ flat_map variable request.vars)) waits) (wait_again request.wait)
    ∙ about)
