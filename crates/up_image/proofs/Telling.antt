-- What the parts of a job tell.
use Rattle.std.proofs.Common.{◌≡◌, ℕ, ◌+◌, ◌≤◌, Bool, true, false, ◌&&◌, List, [], ◌∷◌, ◌++◌, length, drop, map, Option, None, Some, refl, sym, ap, ◌∙◌, arith, nat_le, eqb-true}
use Rattle.std.specs.List.{list_all}
use Rattle.std.proofs.lemmas.Bool.{and_parts, le-leb, leb-true}
use Rattle.std.proofs.lemmas.List.{map-id, length-map}
use Rattle.byteorder.specs.Endian.{big_bytes}
use Rattle.up_expr.specs.declared.expr.Leaf.{Leaf}
use Rattle.up_expr.specs.declared.expr.Test.{Test}
use Rattle.up_expr.specs.declared.expr.Test.TheVariants.{Place, Same, Differs}
use Rattle.up_expr.specs.declared.node.Node.{Node}
use Rattle.up_expr.specs.declared.node.Node.TheVariants as node
use Rattle.up_expr.specs.Flat.{nodes_of, size}
use Rattle.up_expr.specs.Trees.{Tree, One, Both, Either}
use Rattle.up_expr.specs.TreeCode.{newest, newest_joined, tree_in, tree_in-nodes, trees_after}
use Rattle.up_expr.proofs.Flattening.{length_nodes}
use Rattle.up_stanza.specs.declared.action.Action.{Action}
use Rattle.up_stanza.specs.declared.action.Action.TheVariants.{Words, Shell}
use Rattle.up_stanza.specs.declared.exit.Exit.{Exit}
use Rattle.up_stanza.specs.declared.exit.Exit.TheVariants as exit
use Rattle.up_stanza.specs.declared.setting.Setting.{Setting}
use Rattle.up_stanza.specs.Signals.{hup}
use Rattle.up_conf.specs.declared.job.JobDef.{JobDef}
use Rattle.up_image.specs.Image as image
use Rattle.up_image.specs.Texts.{text_part}
use Rattle.up_image.specs.Versions.{fits_reload}
use Rattle.up_image.specs.declared.version.Version.{Version}
use Rattle.up_image.specs.declared.version.Version.TheVariants as versions
use Rattle.up_image.specs.declared.limits.TheConstants.{MAX_IMAGE, MAX_ITEMS, MAX_NODES}
use Rattle.up_image.proofs.Prefixes.{Tells, any, all_any, same_four, same_text, text_tells, both_tell, of_tells, also_tells, list_tells}

-- a list of things whose parts tell all of them
items_tell : {X : Type 0} {part : X → List ℕ} → Tells part (λ x. x) any → Tells (image.list_part part) (λ xs. xs) image.is_countable
items_tell {X = X} {part = part} tell = record {
  tells = λ xs ys r s tx ty small is.
      let got = (list_tells tell).tells xs ys r s (rw (tx, all_any xs) refl) (rw (ty, all_any ys) refl) small is in
      (sym (map-id xs) ∙ got.0 ∙ map-id ys, got.1);
}

-- settings
value_tells : Tells image.value_part (λ value. value) any
value_tells = record { tells = by_case }
  where
    by_case : (x y : Option (List ℕ)) (r s : List ℕ) → true ≡ true → true ≡ true → length (image.value_part x ++ r) ≤ MAX_IMAGE
        → image.value_part x ++ r ≡ image.value_part y ++ s → (x ≡ y) × (r ≡ s)
    by_case None None r s tx ty small is = (refl, ap (drop 1) is)
    by_case None (Some w) r s tx ty small is = absurd (cc)
    by_case (Some v) None r s tx ty small is = absurd (cc)
    by_case (Some v) (Some w) r s tx ty small is =
        let got = same_text v w r s (omega (arith, small)) (ap (drop 1) is) in (ap Some got.0, got.1)

setting_tells : Tells image.setting_part (λ setting. setting) any
setting_tells =
    also_tells any (λ (p : List ℕ × Option (List ℕ)). record { key = p.0; value = p.1 }) (λ x is. refl)
    (both_tell (of_tells (λ (setting : Setting). setting.key) text_tells) (of_tells (λ (setting : Setting). setting.value) value_tells))

-- exits
exit_tells : Tells image.exit_part (λ exit. exit) any
exit_tells = record { tells = by_case }
  where
    by_case : (x y : Exit) (r s : List ℕ) → true ≡ true → true ≡ true → length (image.exit_part x ++ r) ≤ MAX_IMAGE
        → image.exit_part x ++ r ≡ image.exit_part y ++ s → (x ≡ y) × (r ≡ s)
    by_case (exit.Status n) (exit.Status m) r s tx ty small is = let e : n ≡ m = cc in (ap exit.Status e, ap (drop 2) is)
    by_case (exit.Status n) (exit.Signal m) r s tx ty small is = absurd (cc)
    by_case (exit.Signal n) (exit.Status m) r s tx ty small is = absurd (cc)
    by_case (exit.Signal n) (exit.Signal m) r s tx ty small is = let e : n ≡ m = cc in (ap exit.Signal e, ap (drop 2) is)

-- processes
action_tells : Tells image.action_part (λ action. action) image.fits_action
action_tells = record { tells = by_case }
  where
    by_case : (x y : Option Action) (r s : List ℕ) → image.fits_action x ≡ true → image.fits_action y ≡ true → length (image.action_part x ++ r) ≤ MAX_IMAGE
        → image.action_part x ++ r ≡ image.action_part y ++ s → (x ≡ y) × (r ≡ s)
    by_case None None r s tx ty small is = (refl, ap (drop 1) is)
    by_case None (Some (Words ws)) r s tx ty small is = absurd (cc)
    by_case None (Some (Shell w)) r s tx ty small is = absurd (cc)
    by_case (Some (Words vs)) None r s tx ty small is = absurd (cc)
    by_case (Some (Shell v)) None r s tx ty small is = absurd (cc)
    by_case (Some (Words vs)) (Some (Shell w)) r s tx ty small is = absurd (cc)
    by_case (Some (Shell v)) (Some (Words ws)) r s tx ty small is = absurd (cc)
    by_case (Some (Words vs)) (Some (Words ws)) r s tx ty small is =
        let got = (items_tell text_tells).tells vs ws r s tx ty (omega (arith, small)) (ap (drop 1) is) in (ap (λ ws. Some (Words ws)) got.0, got.1)
    by_case (Some (Shell v)) (Some (Shell w)) r s tx ty small is =
        let got = same_text v w r s (omega (arith, small)) (ap (drop 1) is) in (ap (λ w. Some (Shell w)) got.0, got.1)

-- leaves
pair_tells : Tells (λ (p : List ℕ × List ℕ). text_part p.0 ++ text_part p.1) (λ p. p) any
pair_tells = also_tells any (λ (p : List ℕ × List ℕ). p) (λ x is. refl) (both_tell (of_tells (λ (p : List ℕ × List ℕ). p.0) text_tells) (of_tells (λ (p : List ℕ × List ℕ). p.1) text_tells))

test_tells : Tells image.test_part (λ test. test) any
test_tells = record { tells = by_case }
  where
    by_case : (x y : Test) (r s : List ℕ) → true ≡ true → true ≡ true → length (image.test_part x ++ r) ≤ MAX_IMAGE
        → image.test_part x ++ r ≡ image.test_part y ++ s → (x ≡ y) × (r ≡ s)
    by_case (Place v) (Place w) r s tx ty small is = let got = same_text v w r s (omega (arith, small)) (ap (drop 1) is) in (ap Place got.0, got.1)
    by_case (Place v) (Same l w) r s tx ty small is = absurd (cc)
    by_case (Place v) (Differs l w) r s tx ty small is = absurd (cc)
    by_case (Same k v) (Place w) r s tx ty small is = absurd (cc)
    by_case (Same k v) (Same l w) r s tx ty small is =
        let got = pair_tells.tells (k, v) (l, w) r s refl refl (omega (arith, small)) (ap (drop 1) is) in (ap (λ (p : List ℕ × List ℕ). Same p.0 p.1) got.0, got.1)
    by_case (Same k v) (Differs l w) r s tx ty small is = absurd (cc)
    by_case (Differs k v) (Place w) r s tx ty small is = absurd (cc)
    by_case (Differs k v) (Same l w) r s tx ty small is = absurd (cc)
    by_case (Differs k v) (Differs l w) r s tx ty small is =
        let got = pair_tells.tells (k, v) (l, w) r s refl refl (omega (arith, small)) (ap (drop 1) is) in (ap (λ (p : List ℕ × List ℕ). Differs p.0 p.1) got.0, got.1)

leaf_tells : Tells (λ (leaf : Leaf). text_part leaf.event ++ image.list_part image.test_part leaf.values) (λ leaf. leaf) (λ leaf. image.is_countable leaf.values)
leaf_tells =
    also_tells (λ (leaf : Leaf). image.is_countable leaf.values) (λ (p : List ℕ × List Test). record { event = p.0; values = p.1 }) (λ x is. is)
    (both_tell (of_tells (λ (leaf : Leaf). leaf.event) text_tells) (of_tells (λ (leaf : Leaf). leaf.values) (items_tell test_tells)))

-- a node, without the places of its sides
abbrev kind : Node → Node
kind (node.Leaf leaf) = node.Leaf leaf
kind (node.And left right) = node.And 0 0
kind (node.Or left right) = node.Or 0 0

node_tells : Tells image.node_part kind image.fits_node
node_tells = record { tells = by_case }
  where
    by_case : (x y : Node) (r s : List ℕ) → image.fits_node x ≡ true → image.fits_node y ≡ true → length (image.node_part x ++ r) ≤ MAX_IMAGE
        → image.node_part x ++ r ≡ image.node_part y ++ s → (kind x ≡ kind y) × (r ≡ s)
    by_case (node.Leaf v) (node.Leaf w) r s tx ty small is =
        let got = leaf_tells.tells v w r s tx ty (omega (arith, small)) (ap (drop 1) is) in (ap node.Leaf got.0, got.1)
    by_case (node.Leaf v) (node.And a b) r s tx ty small is = absurd (cc)
    by_case (node.Leaf v) (node.Or a b) r s tx ty small is = absurd (cc)
    by_case (node.And a b) (node.Leaf w) r s tx ty small is = absurd (cc)
    by_case (node.And a b) (node.And c d) r s tx ty small is = (refl, ap (drop 5) is)
    by_case (node.And a b) (node.Or c d) r s tx ty small is = absurd (cc)
    by_case (node.Or a b) (node.Leaf w) r s tx ty small is = absurd (cc)
    by_case (node.Or a b) (node.And c d) r s tx ty small is = absurd (cc)
    by_case (node.Or a b) (node.Or c d) r s tx ty small is = (refl, ap (drop 5) is)

-- the places of sides make no difference to the trees
kinds_tell : (nodes : List Node) (trees : List Tree) → trees_after (map kind nodes) trees ≡ trees_after nodes trees
kinds_tell [] trees = refl
kinds_tell (node.Leaf leaf ∷ nodes) trees = kinds_tell nodes (One leaf ∷ trees)
kinds_tell (node.And left right ∷ nodes) trees = kinds_tell nodes (newest_joined true trees)
kinds_tell (node.Or left right ∷ nodes) trees = kinds_tell nodes (newest_joined false trees)

-- the nodes of a tree tell it
tree_told : (tree : Tree) → tree_in (map kind (nodes_of 0 tree)) ≡ tree
tree_told tree = ap newest (kinds_tell (nodes_of 0 tree) []) ∙ tree_in-nodes 0 tree

some_size : (tree : Tree) → 1 ≤ size tree
some_size (One leaf) = omega arith
some_size (Both l r) = omega arith
some_size (Either l r) = omega arith

none_laid : (tree : Tree) → [] ≡ map kind (nodes_of 0 tree) → ⊥
none_laid tree none = omega (arith, some_size tree, length_nodes 0 tree, length-map (nodes_of 0 tree) kind, ap length none)

same_tree : (c d : Option Tree) → map kind (image.nodes_in c) ≡ map kind (image.nodes_in d) → c ≡ d
same_tree None None is = refl
same_tree None (Some u) is = absurd (none_laid u is)
same_tree (Some t) None is = absurd (none_laid t (sym is))
same_tree (Some t) (Some u) is =
    ap Some (sym (tree_told t) ∙ ap tree_in is ∙ tree_told u)

-- an expression
condition_tells : Tells (λ condition. image.list_part image.node_part (image.nodes_in condition)) (λ condition. condition) image.fits_condition
condition_tells = record {
  tells = λ c d r s tc td small is.
      let got = (list_tells node_tells).tells (image.nodes_in c) (image.nodes_in d) r s (countable c tc) (countable d td) small is in
      (same_tree c d got.0, got.1);
}
  where
    countable : (c : Option Tree) → image.fits_condition c ≡ true → (nat_le (length (image.nodes_in c)) MAX_ITEMS && list_all image.fits_node (image.nodes_in c)) ≡ true
    countable None fit = refl
    countable (Some tree) fit =
        let parts = and_parts (nat_le (size tree) MAX_NODES) (list_all image.fits_node (nodes_of 0 tree)) fit in
        let short : nat_le (length (nodes_of 0 tree)) MAX_ITEMS ≡ true = le-leb (length (nodes_of 0 tree)) MAX_ITEMS (omega (arith, length_nodes 0 tree, leb-true (size tree) MAX_NODES parts.0)) in
        rw (short, parts.1) refl

-- the flags
bit_two : (b : Bool) → image.bit 2 b ≡ image.bit 1 b + image.bit 1 b
bit_two true = refl
bit_two false = refl

bit_four : (b : Bool) → image.bit 4 b ≡ image.bit 2 b + image.bit 2 b
bit_four true = refl
bit_four false = refl

bit_small : (b : Bool) → image.bit 1 b ≤ 1
bit_small true = omega arith
bit_small false = omega arith

bit_tells : (a b : Bool) → image.bit 1 a ≡ image.bit 1 b → a ≡ b
bit_tells true true is = refl
bit_tells true false is = cc
bit_tells false true is = cc
bit_tells false false is = refl

abbrev Flags : Type 0
Flags = Bool × (Bool × Bool)

abbrev flags_of : JobDef → Flags
flags_of job = (job.task, (job.respawn, job.silent))

same_flags : (a b c d e f : Bool) → image.bit 1 a + image.bit 2 b + image.bit 4 c ≡ image.bit 1 d + image.bit 2 e + image.bit 4 f → (a ≡ d) × ((b ≡ e) × (c ≡ f))
same_flags a b c d e f is = (
  bit_tells a d (omega (arith, is, bit_two b, bit_two c, bit_two e, bit_two f, bit_four c, bit_four f, bit_small a, bit_small b, bit_small c, bit_small d, bit_small e, bit_small f)),
  (
    bit_tells b e (omega (arith, is, bit_two b, bit_two c, bit_two e, bit_two f, bit_four c, bit_four f, bit_small a, bit_small b, bit_small c, bit_small d, bit_small e, bit_small f)),
    bit_tells c f (omega (arith, is, bit_two b, bit_two c, bit_two e, bit_two f, bit_four c, bit_four f, bit_small a, bit_small b, bit_small c, bit_small d, bit_small e, bit_small f)),
  ),
)

flags_tell : Tells (λ job. image.flags job ∷ []) flags_of any
flags_tell = record {
  tells = λ x y r s tx ty small is.
      let number : image.flags x ≡ image.flags y = cc in
      let got = same_flags x.task x.respawn x.silent y.task y.respawn y.silent number in
      (rw (got.0, got.1.0, got.1.1) refl, ap (drop 1) is);
}

-- the numbers
number_tells : Tells (λ number. big_bytes 4 number) (λ number. number) image.fits_number
number_tells = record { tells = λ x y r s tx ty small is. same_four x y r s (leb-true x 4294967295 tx) (leb-true y 4294967295 ty) is }

byte_tells : Tells (λ (byte : ℕ). byte ∷ []) (λ byte. byte) any
byte_tells = record { tells = λ x y r s tx ty small is. let number : x ≡ y = cc in (number, ap (drop 1) is) }

-- a job's own fields, with what the parts tell of it
abbrev Texts : Type 0
Texts = ((List ℕ × Flags) × List ℕ) × List ℕ

abbrev texts : JobDef → Texts
texts job = (((job.name, flags_of job), job.instance), job.dir)

texts_tell : Tells image.text_parts texts any
texts_tell =
    both_tell (both_tell (both_tell (of_tells (λ (job : JobDef). job.name) text_tells) flags_tell) (of_tells (λ (job : JobDef). job.instance) text_tells)) (of_tells (λ (job : JobDef). job.dir) text_tells)

abbrev Numbers : Type 0
Numbers = (((ℕ × ℕ) × ℕ) × ℕ) × ℕ

abbrev numbers : JobDef → Numbers
numbers job = ((((job.limit.count, job.limit.interval), job.kill_signal), job.reload_signal), job.kill_timeout)

-- version 1 tells the reload signal without a byte: it is HUP
reload_tells : (version : Version) → Tells (image.reload_part version) (λ job. job.reload_signal) (λ job. fits_reload version job.reload_signal)
reload_tells versions.One = record {
  tells = λ x y r s tx ty small is. (eqb-true x.reload_signal hup tx ∙ sym (eqb-true y.reload_signal hup ty), is);
}
reload_tells versions.Two = of_tells (λ (job : JobDef). job.reload_signal) byte_tells

numbers_tell : (version : Version) → Tells (image.number_parts version) numbers (image.fits_numbers version)
numbers_tell version = also_tells (image.fits_numbers version) (λ (n : Numbers). n) widened
    (both_tell (both_tell (both_tell (both_tell (of_tells (λ (job : JobDef). job.limit.count) number_tells) (of_tells (λ (job : JobDef). job.limit.interval) number_tells)) (of_tells (λ (job : JobDef). job.kill_signal) byte_tells)) (reload_tells version)) (of_tells (λ (job : JobDef). job.kill_timeout) number_tells))
  where
    widened : (job : JobDef) → image.fits_numbers version job ≡ true
        → ((((image.fits_number job.limit.count && image.fits_number job.limit.interval) && true) && fits_reload version job.reload_signal) && image.fits_number job.kill_timeout) ≡ true
    widened job fit =
        let parts = and_parts (image.fits_number job.limit.count && image.fits_number job.limit.interval && fits_reload version job.reload_signal) (image.fits_number job.kill_timeout) fit in
        let front = and_parts (image.fits_number job.limit.count && image.fits_number job.limit.interval) (fits_reload version job.reload_signal) parts.0 in
        rw (front.0, front.1, parts.1) refl

-- its lists
abbrev Sets : Type 0
Sets = (List Setting × List (List ℕ)) × List Exit

abbrev sets : JobDef → Sets
sets job = ((job.env, job.export), job.normal)

sets_tell : Tells image.set_part sets image.fits_lists
sets_tell =
    both_tell (both_tell (of_tells (λ (job : JobDef). job.env) (items_tell setting_tells)) (of_tells (λ (job : JobDef). job.export) (items_tell text_tells))) (of_tells (λ (job : JobDef). job.normal) (items_tell exit_tells))

-- its processes
abbrev Processes : Type 0
Processes = (((Option Action × Option Action) × Option Action) × Option Action) × Option Action

abbrev processes : JobDef → Processes
processes job = ((((job.main, job.pre_start), job.post_start), job.pre_stop), job.post_stop)

processes_tell : Tells image.process_part processes image.fits_processes
processes_tell =
    both_tell (both_tell (both_tell (both_tell (of_tells (λ (job : JobDef). job.main) action_tells) (of_tells (λ (job : JobDef). job.pre_start) action_tells))
    (of_tells (λ (job : JobDef). job.post_start) action_tells)) (of_tells (λ (job : JobDef). job.pre_stop) action_tells)) (of_tells (λ (job : JobDef). job.post_stop) action_tells)

-- its expressions
abbrev Events : Type 0
Events = Option Tree × Option Tree

abbrev events : JobDef → Events
events job = (job.start_on, job.stop_on)

events_tell : Tells image.event_part events image.fits_events
events_tell = both_tell (of_tells (λ (job : JobDef). job.start_on) condition_tells) (of_tells (λ (job : JobDef). job.stop_on) condition_tells)

-- a job
abbrev Parts : Type 0
Parts = (((Texts × Numbers) × Sets) × Processes) × Events

abbrev job_from : Parts → JobDef
job_from p =
    let t = p.0.0.0.0 in
    let n = p.0.0.0.1 in
    let s = p.0.0.1 in
    let a = p.0.1 in
    record {
      name = t.0.0.0;
      task = t.0.0.1.0;
      respawn = t.0.0.1.1.0;
      silent = t.0.0.1.1.1;
      instance = t.0.1;
      dir = t.1;
      limit = record { count = n.0.0.0.0; interval = n.0.0.0.1 };
      kill_signal = n.0.0.1;
      kill_timeout = n.1;
      reload_signal = n.0.1;
      env = s.0.0;
      export = s.0.1;
      normal = s.1;
      main = a.0.0.0.0;
      pre_start = a.0.0.0.1;
      post_start = a.0.0.1;
      pre_stop = a.0.1;
      post_stop = a.1;
      start_on = p.1.0;
      stop_on = p.1.1;
    }

pub job_tells : (version : Version) → Tells (image.job_part version) (λ job. job) (image.fits version)
unfolding image.fits image.job_part
job_tells version = also_tells (image.fits version) job_from widened
    (both_tell (both_tell (both_tell (both_tell texts_tell (numbers_tell version)) sets_tell) processes_tell) events_tell)
  where
    widened : (job : JobDef) → image.fits version job ≡ true
        → ((((true && image.fits_numbers version job) && image.fits_lists job) && image.fits_processes job) && image.fits_events job) ≡ true
    widened job fit = fit
