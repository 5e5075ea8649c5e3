-- What the tokens of a leaf say (init(5), "Event conditions").
use Rattle.std.specs.Prelude.{◌-◌, Bool, true, false, nat_le, nat_eq, ◌&&◌, ◌||◌, not, List, [], ◌∷◌, length, take, map, Option, None, Some, if◌then◌else◌, codes}
use Rattle.std.specs.List.{list_any, list_all, before_first, after_first, ends_with}
use Rattle.std.specs.Str.{bytes_eq}
use Rattle.up_value.specs.Values.{Bytes}
use Rattle.up_text.specs.Names.{has_equals, is_equals, is_key, is_name}
use Rattle.up_text.specs.declared.token.Token.{Token}
use Rattle.up_text.specs.Expansion.{is_expandable}
use Rattle.up_text.specs.Pattern.{supported}
use Rattle.up_expr.specs.declared.expr.Leaf.{Leaf}
use Rattle.up_expr.specs.declared.expr.Test.{Test}
use Rattle.up_expr.specs.declared.expr.Test.TheVariants.{Place, Same, Differs}

-- a plain token of this text: only such a token is an operator or a parenthesis
abbrev pub is_plainly : Bytes → Token → Bool
is_plainly text token = token.plain && bytes_eq token.text text

abbrev pub is_open : Token → Bool
is_open token = is_plainly (codes "(") token

abbrev pub is_close : Token → Bool
is_close token = is_plainly (codes ")") token

abbrev pub is_and : Token → Bool
is_and token = is_plainly (codes "and") token

abbrev pub is_or : Token → Bool
is_or token = is_plainly (codes "or") token

abbrev pub is_operator : Token → Bool
is_operator token = is_and token || is_or token

-- a token that no leaf may have
abbrev pub is_symbol : Token → Bool
is_symbol token = is_open token || is_close token || is_operator token

-- a key with a ! after it
abbrev pub is_negated_key : Bytes → Bool
is_negated_key text = if ends_with nat_eq text (codes "!") then is_key (take (length text - 1) text)
    else false

-- what a text says where this stands before its first =, and that after it: KEY=VALUE, KEY!=VALUE, or a positional value
abbrev pub test_by : Bytes → Bytes → Bytes → Test
test_by text key value =
    if is_key key then Same key value
    else (if is_negated_key key then Differs (take (length key - 1) key) value
    else Place text)

-- what a value's text says
unfoldable pub test_of : Bytes → Test
test_of text =
    if has_equals text then test_by text (before_first is_equals text) (after_first is_equals text)
    else Place text

-- a value that may stand in a job file: a good expansion, and a pattern that is supported as it is written
abbrev pub is_good_value : Bytes → Bool
is_good_value value = is_expandable value && supported value

abbrev pub is_good : Test → Bool
is_good (Place value) = is_good_value value
is_good (Same key value) = is_good_value value
is_good (Differs key value) = is_good_value value

abbrev pub is_positional : Test → Bool
is_positional (Place value) = true
is_positional keyed = false

-- no positional value stands after a keyed one
abbrev pub is_ordered : List Test → Bool
is_ordered [] = true
is_ordered (test ∷ tests) = if is_positional test then is_ordered tests
    else not (list_any is_positional tests)

-- the values of a leaf
abbrev pub values_of : List Token → List Test
values_of tokens = map (λ token. test_of token.text) tokens

abbrev pub are_values : List Test → Bool
are_values tests = list_all is_good tests && is_ordered tests && nat_le (length tests) 65535

-- the leaf that tokens write: an event's name, then its values
abbrev pub leaf_of : List Token → Option Leaf
leaf_of [] = None
leaf_of (token ∷ tokens) =
    if not (list_any is_symbol (token ∷ tokens)) && is_name token.text && are_values (values_of tokens)
    then Some (record { event = token.text; values = values_of tokens })
    else None
