-- A stanza leaves less of the text.
use Rattle.std.proofs.Common.{◌≡◌, ℕ, ◌+◌, ◌<◌, ◌≤◌, Bool, true, false, List, length, map, Option, None, Some, cond, refl, ap, arith, option_map, codes}
use Rattle.std.proofs.lemmas.List.{length-drop}
use Rattle.std.specs.List.{concat}
use Rattle.std.specs.Str.{bytes_eq}
use Rattle.up_value.specs.declared.fault.TextFault.{TextFault}
use Rattle.up_text.specs.declared.token.Token.{Token}
use Rattle.up_text.specs.Commands.{command_marks_at, command_in}
use Rattle.up_text.specs.Places.{Place, Reading, Got, Ended, Fails, reading, with_parens, place_after, fault_in}
use Rattle.up_text.specs.Statements.{statement_of}
use Rattle.up_text.specs.Scripts.{lines_of, script_in}
use Rattle.up_text.proofs.Lexemes.{reading_less, reading_ends}
use Rattle.up_text.proofs.Statements.{IsStatement-statement_of, IsStatement-leaves}
use Rattle.up_stanza.specs.declared.kind.Kind.{Kind}
use Rattle.up_stanza.specs.declared.kind.Kind.TheVariants as kind
use Rattle.up_stanza.specs.declared.process.Process.TheVariants as process
use Rattle.up_stanza.specs.declared.stanza.Stanza.{Stanza}
use Rattle.up_stanza.specs.declared.stanza.Stanza.TheVariants.{Runs, StartOn, StopOn}
use Rattle.up_stanza.specs.Actions.{action_of}
use Rattle.up_stanza.specs.Arguments.{listed_of}
use Rattle.up_stanza.specs.Kinds.{kind_of}
use Rattle.up_stanza.specs.Stanzas.{Found, map_found, and_then_found, without_parens, expression_in, expression_by, texts_at, with_end, command_by, command_at, script_of, script_by, script_at, action_by, action_at, stanza_as, stanza_of, stanza_by, stanza_at}

-- how much of the text is left after a part, if it is read
abbrev left : {X : Type 0} → Found X → ℕ
left None = 0
left (Some found) = length found.1.rest

made_left : {X Y : Type 0} (f : X → Y) (found : Found X) → left (map_found f found) ≤ left found
made_left f None = omega arith
made_left f (Some found) = omega arith

found_left : {X Y : Type 0} (f : X → Option Y) (found : Found X) → left (and_then_found f found) ≤ left found
found_left f None = omega arith
found_left {X} {Y} f (Some found) = by_part (f found.0)
  where
    by_part : (part : Option Y) → left (option_map {U = Y × Place} (λ y. (y, found.1)) part) ≤ length found.1.rest
    by_part None = omega arith
    by_part (Some y) = omega arith

switched_left : {X : Type 0} (found : Found X) → left (without_parens found) ≤ left found
switched_left None = omega arith
switched_left (Some found) = omega arith

statement_left : (place : Place) → left (statement_of place) ≤ length place.rest
statement_left place = by_statement (statement_of place) refl
  where
    by_statement : (statement : Found (List Token)) → statement_of place ≡ statement → left statement ≤ length place.rest
    by_statement None is = omega arith
    by_statement (Some statement) is = (IsStatement-leaves place statement.0 statement.1 (IsStatement-statement_of place statement.0 statement.1 is)).1

texts_left : (place : Place) → left (texts_at place) ≤ length place.rest
texts_left place = let statement = statement_left place in let texts = made_left (λ (tokens : List Token). map (λ t. t.text) tokens) (statement_of place) in omega (arith, statement, texts)

passing_left : (n : ℕ) (place : Place) → length (place_after n place).rest ≤ length place.rest
passing_left n place = let is = length-drop n place.rest in omega (arith, is)

with_end_left : {X : Type 0} (part : Option X) (place : Place) → left (with_end part (reading place)) ≤ length place.rest
with_end_left None place = omega arith
with_end_left (Some x) place = by_reading (reading place) refl
  where
    by_reading : (r : Reading) → reading place ≡ r → left (with_end (Some x) r) ≤ length place.rest
    by_reading (Got token after) is = omega arith
    by_reading (Ended after) is = (reading_ends place after is).1
    by_reading (Fails fault) is = omega arith

command_left : (place : Place) → left (command_at place) ≤ length place.rest
command_left place = by_fault (fault_in (command_marks_at place))
  where
    by_fault : (fault : Option TextFault) → left (command_by place fault) ≤ length place.rest
    by_fault (Some fault) = omega arith
    by_fault None =
        let n = length (command_marks_at place) in
        let passed = passing_left n place in
        let end = with_end_left (action_of (command_in (command_marks_at place))) (place_after n place) in
        omega (arith, passed, end)

script_left : (place : Place) → left (script_at place) ≤ length place.rest
script_left place = by_reading (reading place) refl
  where
    by_script : (after : Place) (script : Option (List (List ℕ) × List ℕ)) → length after.rest ≤ length place.rest → left (script_of after script) ≤ length place.rest
    by_script after None less = omega arith
    by_script after (Some script) less = let passed = passing_left (length (concat script.0) + length script.1) after in omega (arith, passed, less)

    by_reading : (r : Reading) → reading place ≡ r → left (script_by r) ≤ length place.rest
    by_reading (Got token after) is = omega arith
    by_reading (Ended after) is = by_script after (script_in (lines_of after.rest)) (reading_ends place after is).1
    by_reading (Fails fault) is = omega arith

action_left : (place : Place) → left (action_at place) ≤ length place.rest
action_left place = by_reading (reading place) refl
  where
    by_word : (after : Place) (exec script : Bool) → length after.rest ≤ length place.rest → left (cond exec (command_at after) (cond script (script_at after) None)) ≤ length place.rest
    by_word after true script less = let more = command_left after in omega (arith, more, less)
    by_word after false true less = let more = script_left after in omega (arith, more, less)
    by_word after false false less = omega arith

    by_reading : (r : Reading) → reading place ≡ r → left (action_by r) ≤ length place.rest
    by_reading (Got token after) is =
        by_word after (bytes_eq token.text (codes "exec")) (bytes_eq token.text (codes "script")) (let less = reading_less place token after is in omega (arith, less))
    by_reading (Ended after) is = omega arith
    by_reading (Fails fault) is = omega arith

expression_left : (place : Place) → left (expression_by (reading place)) ≤ length place.rest
expression_left place = by_reading (reading place) refl
  where
    by_on : (after : Place) (on : Bool) → length after.rest ≤ length place.rest → left (cond on (without_parens (and_then_found expression_in (statement_of (with_parens true after)))) None) ≤ length place.rest
    by_on after false less = omega arith
    by_on after true less =
        let statement = statement_left (with_parens true after) in
        let tree = found_left expression_in (statement_of (with_parens true after)) in
        let whole = switched_left (and_then_found expression_in (statement_of (with_parens true after))) in
        omega (arith, statement, tree, whole, less)

    by_reading : (r : Reading) → reading place ≡ r → left (expression_by r) ≤ length place.rest
    by_reading (Got token after) is = by_on after (bytes_eq token.text (codes "on")) (let less = reading_less place token after is in omega (arith, less))
    by_reading (Ended after) is = omega arith
    by_reading (Fails fault) is = omega arith

made_of : {X Y : Type 0} (f : X → Y) (found : Found X) (n : ℕ) → left found ≤ n → left (map_found f found) ≤ n
made_of f found n less = let more = made_left f found in omega (arith, more, less)

kind_left : (kind : Kind) (place : Place) → left (stanza_as kind place) ≤ length place.rest
kind_left (kind.Listed kind) place = let texts = texts_left place in let more = found_left (listed_of kind) (texts_at place) in omega (arith, texts, more)
kind_left kind.Exec place = made_of (Runs process.Main) (command_at place) _ (command_left place)
kind_left kind.Script place = made_of (Runs process.Main) (script_at place) _ (script_left place)
kind_left kind.PreStart place = made_of (Runs process.PreStart) (action_at place) _ (action_left place)
kind_left kind.PostStart place = made_of (Runs process.PostStart) (action_at place) _ (action_left place)
kind_left kind.PreStop place = made_of (Runs process.PreStop) (action_at place) _ (action_left place)
kind_left kind.PostStop place = made_of (Runs process.PostStop) (action_at place) _ (action_left place)
kind_left kind.Start place = made_of StartOn (expression_by (reading place)) _ (expression_left place)
kind_left kind.Stop place = made_of StopOn (expression_by (reading place)) _ (expression_left place)

pub stanza_less : (place : Place) (stanza : Stanza) (after : Place) → stanza_at place ≡ Some (stanza, after) → length after.rest < length place.rest
stanza_less place stanza after is = by_reading (reading place) refl is
  where
    by_kind : (kind : Option Kind) (token : Token) (next : Place) → reading place ≡ Got token next → stanza_of kind next ≡ Some (stanza, after) → length after.rest < length place.rest
    by_kind None token next got is = absurd (cc)
    by_kind (Some kind) token next got is =
        let first = reading_less place token next got in
        let more = kind_left kind next in
        let same : left (stanza_as kind next) ≡ length after.rest = ap left is in
        omega (arith, first, more, same)

    by_reading : (r : Reading) → reading place ≡ r → stanza_by r ≡ Some (stanza, after) → length after.rest < length place.rest
    by_reading (Got token next) got is = by_kind (kind_of token.text) token next got is
    by_reading (Ended next) got is = absurd (cc)
    by_reading (Fails fault) got is = absurd (cc)
