-- Whether two values of a job's field are the same, told from their bytes and numbers; `proofs/Sameness.antt` shows that they are then equal.
use Rattle.std.specs.Prelude.{Bool, true, false, not, ◌&&◌, ◌==◌, Option, None, Some}
use Rattle.std.specs.Cmp.Lexicographic.{pointwise}
use Rattle.std.specs.Str.{bytes_eq}
use Rattle.up_expr.specs.declared.expr.Leaf.{Leaf}
use Rattle.up_expr.specs.declared.expr.Test.{Test}
use Rattle.up_expr.specs.declared.expr.Test.TheVariants.{Place, Same, Differs}
use Rattle.up_expr.specs.Trees.{Tree, One, Both, Either}
use Rattle.up_stanza.specs.declared.action.Action.{Action}
use Rattle.up_stanza.specs.declared.action.Action.TheVariants.{Words, Shell}
use Rattle.up_stanza.specs.declared.limit.Limit.{Limit}
use Rattle.up_stanza.specs.declared.setting.Setting.{Setting}

abbrev pub same_flag : Bool → Bool → Bool
same_flag true other = other
same_flag false other = not other

abbrev pub same_option : {A : Type 0} → (A → A → Bool) → Option A → Option A → Bool
same_option same None None = true
same_option same None (Some other) = false
same_option same (Some value) None = false
same_option same (Some value) (Some other) = same value other

abbrev pub same_limit : Limit → Limit → Bool
same_limit limit other = limit.count == other.count && limit.interval == other.interval

abbrev pub same_setting : Setting → Setting → Bool
same_setting setting other = bytes_eq setting.key other.key && same_option bytes_eq setting.value other.value

abbrev pub same_action : Action → Action → Bool
same_action (Words words) (Words others) = pointwise bytes_eq words others
same_action (Words words) (Shell other) = false
same_action (Shell text) (Words others) = false
same_action (Shell text) (Shell other) = bytes_eq text other

abbrev pub same_test : Test → Test → Bool
same_test (Place value) (Place other) = bytes_eq value other
same_test (Place value) (Same second other) = false
same_test (Place value) (Differs second other) = false
same_test (Same key value) (Place other) = false
same_test (Same key value) (Same second other) = bytes_eq key second && bytes_eq value other
same_test (Same key value) (Differs second other) = false
same_test (Differs key value) (Place other) = false
same_test (Differs key value) (Same second other) = false
same_test (Differs key value) (Differs second other) = bytes_eq key second && bytes_eq value other

abbrev pub same_leaf : Leaf → Leaf → Bool
same_leaf leaf other = bytes_eq leaf.event other.event && pointwise same_test leaf.values other.values

-- whether two expressions are the same, node by node
abbrev pub same_tree : Tree → Tree → Bool
same_tree (One leaf) (One other) = same_leaf leaf other
same_tree (One leaf) (Both first second) = false
same_tree (One leaf) (Either first second) = false
same_tree (Both left right) (One other) = false
same_tree (Both left right) (Both first second) = same_tree left first && same_tree right second
same_tree (Both left right) (Either first second) = false
same_tree (Either left right) (One other) = false
same_tree (Either left right) (Both first second) = false
same_tree (Either left right) (Either first second) = same_tree left first && same_tree right second
