-- A test of two values is true exactly if they are equal.
use Rattle.std.proofs.Common.{◌≡◌, ℕ, Bool, true, false, Option, None, Some, List, refl, ap}
use Rattle.std.specs.Bool.{Decides}
use Rattle.std.proofs.lemmas.Bool.{false≢true}
use Rattle.std.specs.Cmp.Lexicographic.{pointwise}
use Rattle.std.specs.Str.{bytes_eq}
use Rattle.std.proofs.lemmas.Bool.Decides.{Decides-eqb, Decides-and, Decides-like}
use Rattle.std.proofs.lemmas.Slice.Eq.{bytes_eq-Decides, slice_eq-Decides}
use Rattle.up_value.specs.Values.{Bytes}
use Rattle.up_expr.specs.declared.expr.Leaf.{Leaf}
use Rattle.up_expr.specs.declared.expr.Test.{Test}
use Rattle.up_expr.specs.declared.expr.Test.TheVariants.{Place, Same, Differs}
use Rattle.up_expr.specs.Trees.{Tree, One, Both, Either}
use Rattle.up_stanza.specs.declared.action.Action.{Action}
use Rattle.up_stanza.specs.declared.action.Action.TheVariants.{Words, Shell}
use Rattle.up_stanza.specs.declared.exit.Exit.{Exit}
use Rattle.up_stanza.specs.declared.exit.Exit.TheVariants as exit
use Rattle.up_stanza.specs.declared.limit.Limit.{Limit}
use Rattle.up_stanza.specs.declared.setting.Setting.{Setting}
use Rattle.up_conf.specs.declared.job.JobDef.{JobDef}
use Rattle.up_stanza.specs.Exits.{same_exit}
use Rattle.up_tools.specs.declared.changes.part.Part.{Part}
use Rattle.up_tools.specs.declared.changes.part.Part.TheVariants as part
use Rattle.up_tools.specs.Parts.{Agree, same_part}
use Rattle.up_tools.specs.Same.{same_action, same_flag, same_leaf, same_limit, same_option, same_setting, same_test, same_tree}

apart : {P : Type 0} → (P → ⊥) → Decides false P
apart never = (λ is. absurd (false≢true is), λ holds. absurd (never holds))

same_flag-Decides : (flag other : Bool) → Decides (same_flag flag other) (flag ≡ other)
same_flag-Decides true true = (λ is. refl, λ same. refl)
same_flag-Decides true false = apart (λ same. cc)
same_flag-Decides false true = apart (λ same. cc)
same_flag-Decides false false = (λ is. refl, λ same. refl)

same_option-Decides : {A : Type 0} (same : A → A → Bool) (each : (value other : A) → Decides (same value other) (value ≡ other))
    → (value other : Option A) → Decides (same_option same value other) (value ≡ other)
same_option-Decides same each None None = (λ is. refl, λ both. refl)
same_option-Decides same each None (Some other) = apart (λ both. cc)
same_option-Decides same each (Some value) None = apart (λ both. cc)
same_option-Decides same each (Some value) (Some other) =
    Decides-like (same value other) (λ both. cc) (λ both. cc) (each value other)

lists-Decides : {A : Type 0} (same : A → A → Bool) (each : (value other : A) → Decides (same value other) (value ≡ other))
    → (values others : List A) → Decides (pointwise same values others) (values ≡ others)
lists-Decides same each values others = slice_eq-Decides each values others (pointwise same values others) refl

limits : (count interval second other : ℕ) → (count ≡ second) × (interval ≡ other)
    → (let limit : Limit = record { count = count; interval = interval } in limit) ≡ record { count = second; interval = other }
limits count interval second other both = cc

same_limit-Decides : (limit other : Limit) → Decides (same_limit limit other) (limit ≡ other)
same_limit-Decides limit other =
    Decides-like (same_limit limit other) (limits limit.count limit.interval other.count other.interval)
    (λ both. (ap (λ (l : Limit). l.count) both, ap (λ (l : Limit). l.interval) both))
    (Decides-and _ _ (Decides-eqb limit.count other.count) (Decides-eqb limit.interval other.interval))

settings : (key second : Bytes) (value other : Option Bytes) → (key ≡ second) × (value ≡ other)
    → (let setting : Setting = record { key = key; value = value } in setting) ≡ record { key = second; value = other }
settings key second value other both = cc

same_setting-Decides : (setting other : Setting) → Decides (same_setting setting other) (setting ≡ other)
same_setting-Decides setting other =
    Decides-like (same_setting setting other) (settings setting.key other.key setting.value other.value)
    (λ both. (ap (λ (s : Setting). s.key) both, ap (λ (s : Setting). s.value) both))
    (Decides-and _ _ (bytes_eq-Decides setting.key other.key)
    (same_option-Decides bytes_eq bytes_eq-Decides setting.value other.value))

same_exit-Decides : (status other : Exit) → Decides (same_exit status other) (status ≡ other)
same_exit-Decides (exit.Status status) (exit.Status other) =
    Decides-like _ (λ both. cc) (λ both. cc) (Decides-eqb status other)
same_exit-Decides (exit.Status status) (exit.Signal other) = apart (λ both. cc)
same_exit-Decides (exit.Signal signal) (exit.Status other) = apart (λ both. cc)
same_exit-Decides (exit.Signal signal) (exit.Signal other) =
    Decides-like _ (λ both. cc) (λ both. cc) (Decides-eqb signal other)

same_action-Decides : (action other : Action) → Decides (same_action action other) (action ≡ other)
same_action-Decides (Words words) (Words others) =
    Decides-like _ (λ both. cc) (λ both. cc) (lists-Decides bytes_eq bytes_eq-Decides words others)
same_action-Decides (Words words) (Shell other) = apart (λ both. cc)
same_action-Decides (Shell text) (Words others) = apart (λ both. cc)
same_action-Decides (Shell text) (Shell other) =
    Decides-like _ (λ both. cc) (λ both. cc) (bytes_eq-Decides text other)

same_test-Decides : (test other : Test) → Decides (same_test test other) (test ≡ other)
same_test-Decides (Place value) (Place other) =
    Decides-like _ (λ both. cc) (λ both. cc) (bytes_eq-Decides value other)
same_test-Decides (Place value) (Same second other) = apart (λ both. cc)
same_test-Decides (Place value) (Differs second other) = apart (λ both. cc)
same_test-Decides (Same key value) (Place other) = apart (λ both. cc)
same_test-Decides (Same key value) (Same second other) =
    Decides-like _ (λ both. cc) (λ both. (cc, cc))
    (Decides-and _ _ (bytes_eq-Decides key second) (bytes_eq-Decides value other))
same_test-Decides (Same key value) (Differs second other) = apart (λ both. cc)
same_test-Decides (Differs key value) (Place other) = apart (λ both. cc)
same_test-Decides (Differs key value) (Same second other) = apart (λ both. cc)
same_test-Decides (Differs key value) (Differs second other) =
    Decides-like _ (λ both. cc) (λ both. (cc, cc))
    (Decides-and _ _ (bytes_eq-Decides key second) (bytes_eq-Decides value other))

leaves : (event other : Bytes) (values others : List Test) → (event ≡ other) × (values ≡ others)
    → (let leaf : Leaf = record { event = event; values = values } in leaf) ≡ record { event = other; values = others }
leaves event other values others both = cc

same_leaf-Decides : (leaf other : Leaf) → Decides (same_leaf leaf other) (leaf ≡ other)
same_leaf-Decides leaf other =
    Decides-like (same_leaf leaf other) (leaves leaf.event other.event leaf.values other.values)
    (λ both. (ap (λ (l : Leaf). l.event) both, ap (λ (l : Leaf). l.values) both))
    (Decides-and _ _ (bytes_eq-Decides leaf.event other.event)
    (lists-Decides same_test same_test-Decides leaf.values other.values))

same_tree-Decides : (tree other : Tree) → Decides (same_tree tree other) (tree ≡ other)
same_tree-Decides (One leaf) (One other) =
    Decides-like _ (λ both. cc) (λ both. cc) (same_leaf-Decides leaf other)
same_tree-Decides (One leaf) (Both first second) = apart (λ both. cc)
same_tree-Decides (One leaf) (Either first second) = apart (λ both. cc)
same_tree-Decides (Both left right) (One other) = apart (λ both. cc)
same_tree-Decides (Both left right) (Both first second) =
    Decides-like _ (λ both. cc) (λ both. (cc, cc))
    (Decides-and _ _ (same_tree-Decides left first) (same_tree-Decides right second))
same_tree-Decides (Both left right) (Either first second) = apart (λ both. cc)
same_tree-Decides (Either left right) (One other) = apart (λ both. cc)
same_tree-Decides (Either left right) (Both first second) = apart (λ both. cc)
same_tree-Decides (Either left right) (Either first second) =
    Decides-like _ (λ both. cc) (λ both. (cc, cc))
    (Decides-and _ _ (same_tree-Decides left first) (same_tree-Decides right second))

-- a test tells exactly whether two jobs have a part in common
pub same_part-Decides : (one : Part) (job other : JobDef) → Decides (same_part one job other) (Agree one job other)
same_part-Decides part.Task job other = same_flag-Decides job.task other.task
same_part-Decides part.Respawn job other = same_flag-Decides job.respawn other.respawn
same_part-Decides part.Console job other = same_flag-Decides job.silent other.silent
same_part-Decides part.Instance job other = bytes_eq-Decides job.instance other.instance
same_part-Decides part.Chdir job other = bytes_eq-Decides job.dir other.dir
same_part-Decides part.RespawnLimit job other = same_limit-Decides job.limit other.limit
same_part-Decides part.KillSignal job other = Decides-eqb job.kill_signal other.kill_signal
same_part-Decides part.KillTimeout job other = Decides-eqb job.kill_timeout other.kill_timeout
same_part-Decides part.ReloadSignal job other = Decides-eqb job.reload_signal other.reload_signal
same_part-Decides part.Env job other = lists-Decides same_setting same_setting-Decides job.env other.env
same_part-Decides part.Export job other = lists-Decides bytes_eq bytes_eq-Decides job.export other.export
same_part-Decides part.NormalExit job other = lists-Decides same_exit same_exit-Decides job.normal other.normal
same_part-Decides part.Exec job other = same_option-Decides same_action same_action-Decides job.main other.main
same_part-Decides part.PreStart job other = same_option-Decides same_action same_action-Decides job.pre_start other.pre_start
same_part-Decides part.PostStart job other = same_option-Decides same_action same_action-Decides job.post_start other.post_start
same_part-Decides part.PreStop job other = same_option-Decides same_action same_action-Decides job.pre_stop other.pre_stop
same_part-Decides part.PostStop job other = same_option-Decides same_action same_action-Decides job.post_stop other.post_stop
same_part-Decides part.StartOn job other = same_option-Decides same_tree same_tree-Decides job.start_on other.start_on
same_part-Decides part.StopOn job other = same_option-Decides same_tree same_tree-Decides job.stop_on other.stop_on
