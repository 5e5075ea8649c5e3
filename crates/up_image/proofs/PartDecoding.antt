-- The parts of what files can give are found where they stand.
use Rattle.std.proofs.Common.{◌≡◌, ℕ, ◌+◌, ◌-◌, ◌≤◌, suc, Bool, true, ◌&&◌, List, [], ◌∷◌, ◌++◌, length, Option, None, Some, option_and_then, refl, sym, ap, ◌∙◌, append_assoc, append-nil, length-append, arith, nat_le}
use Rattle.std.specs.List.{flat_map, list_all}
use Rattle.std.specs.Str.{is_utf8}
use Rattle.std.proofs.lemmas.Bool.{and_parts}
use Rattle.std.proofs.lemmas.Bool.Decides.{nat_tests}
use Rattle.std.proofs.lemmas.List.Folds.{list_all-append}
use Rattle.std.proofs.lemmas.Grind.{flat_map-append}
use Rattle.byteorder.specs.Endian.{big_number}
use Rattle.up_expr.specs.declared.expr.Leaf.{Leaf}
use Rattle.up_expr.specs.declared.expr.Test.{Test}
use Rattle.up_expr.specs.declared.expr.Test.TheVariants.{Place, Same, Differs}
use Rattle.up_expr.specs.declared.node.Node.{Node}
use Rattle.up_expr.specs.declared.node.Node.TheVariants as node
use Rattle.up_expr.specs.Flat.{nodes_of, size}
use Rattle.up_expr.specs.Values.{is_ordered}
use Rattle.up_expr.specs.Trees.{Tree, One, Both, Either}
use Rattle.up_stanza.specs.declared.action.Action.{Action}
use Rattle.up_stanza.specs.declared.action.Action.TheVariants.{Words, Shell}
use Rattle.up_stanza.specs.declared.exit.Exit.{Exit}
use Rattle.up_stanza.specs.declared.exit.Exit.TheVariants as exit
use Rattle.up_stanza.specs.declared.setting.Setting.{Setting}
use Rattle.up_text.specs.Names.{is_name, is_key, is_value}
use Rattle.up_image.specs.Image as image
use Rattle.up_image.specs.Definable as definable
use Rattle.up_image.specs.Finding as found
use Rattle.up_image.specs.Finding.{Found, text_at, name_at, list_at, value_at, setting_at, exit_at, action_at, test_at, leaf_at, trees_at, node_at, condition_at}
use Rattle.up_image.specs.Texts.{text_part}
use Rattle.up_image.specs.declared.limits.TheConstants.{MAX_IMAGE, MAX_ITEMS}
use Rattle.up_image.proofs.Decoding.{Decodes, shorter, also_decodes, number_is, text_decodes, list_decodes}
use Rattle.up_image.proofs.Utf8.{name_is_text, key_is_text}

-- names, keys and tokens are text
pub name_decodes : Decodes text_part name_at is_name
unfolding name_at
name_decodes = record { finds = found_it }
  where
    found_it : (name r : List ℕ) → is_name name ≡ true → length (text_part name ++ r) ≤ MAX_IMAGE → name_at (text_part name ++ r) ≡ Some (name, r)
    found_it name r valid small = rw (text_decodes.finds name r (name_is_text name valid) small, valid) refl

pub key_decodes : Decodes text_part text_at is_key
key_decodes = also_decodes is_key key_is_text text_decodes

pub token_decodes : Decodes text_part text_at definable.is_token
token_decodes = also_decodes definable.is_token (λ text is. (and_parts (is_utf8 text) (list_all definable.is_token_byte text) is).0) text_decodes

-- what is set
value_decodes : Decodes image.value_part value_at definable.is_value_token
unfolding value_at
value_decodes = record { finds = by_case }
  where
    by_case : (value : Option (List ℕ)) (r : List ℕ) → definable.is_value_token value ≡ true → length (image.value_part value ++ r) ≤ MAX_IMAGE
        → value_at (image.value_part value ++ r) ≡ Some (value, r)
    by_case None r is small = refl
    by_case (Some text) r is small = rw (token_decodes.finds text r is (omega (arith, small))) refl

-- two parts, one after the other
pub both_found : {A B C : Type 0} {p : A → List ℕ} {q : B → List ℕ} {f : List ℕ → Found A} {g : List ℕ → Found B} {t : A → Bool} {u : B → Bool} (h : A → B → C)
    → Decodes p f t → Decodes q g u → (a : A) (b : B) (r : List ℕ) → t a ≡ true → u b ≡ true → length (p a ++ q b ++ r) ≤ MAX_IMAGE
    → option_and_then (λ x. found.made (λ y. h x.0 y) (g x.1)) (f (p a ++ q b ++ r)) ≡ Some (h a b, r)
both_found {p = p} {q = q} {f = f} {g = g} h first second a b r ta ub small =
    let apart = append_assoc (p a) (q b) r in
    let small_whole : length (p a ++ (q b ++ r)) ≤ MAX_IMAGE = omega (arith, small, ap length apart) in
    ap (λ bytes. option_and_then (λ x. found.made (λ y. h x.0 y) (g x.1)) (f bytes)) apart
    ∙ ap (λ x. option_and_then (λ x. found.made (λ y. h x.0 y) (g x.1)) x) (first.finds a (q b ++ r) ta small_whole)
    ∙ ap (λ y. found.made (λ y. h a y) y) (second.finds b r ub (shorter (p a) (q b ++ r) small_whole))

pub setting_decodes : Decodes image.setting_part setting_at definable.is_setting
unfolding setting_at
setting_decodes = record { finds = found_it }
  where
    found_it : (setting : Setting) (r : List ℕ) → definable.is_setting setting ≡ true → length (image.setting_part setting ++ r) ≤ MAX_IMAGE → setting_at (image.setting_part setting ++ r) ≡ Some (setting, r)
    found_it setting r is small =
        let parts = and_parts (is_key setting.key) (definable.is_value_token setting.value) is in
        both_found (λ key value. record { key = key; value = value }) key_decodes value_decodes setting.key setting.value r parts.0 parts.1 small

-- exits
pub exit_decodes : Decodes image.exit_part exit_at definable.is_exit
unfolding exit_at
exit_decodes = record { finds = by_case }
  where
    by_case : (its : Exit) (r : List ℕ) → definable.is_exit its ≡ true → length (image.exit_part its ++ r) ≤ MAX_IMAGE → exit_at (image.exit_part its ++ r) ≡ Some (its, r)
    by_case (exit.Status status) r is small = refl
    by_case (exit.Signal signal) r is small = rw is refl

-- what a process runs
word_text : (word : List ℕ) → definable.is_word word ≡ true → is_utf8 word ≡ true
word_text word is = (and_parts _ _ (and_parts _ (list_all definable.is_word_byte word) is).0).1

words_decode : Decodes (image.list_part text_part) (list_at text_at) (λ words. nat_le (length words) MAX_ITEMS && list_all definable.is_word words)
words_decode = list_decodes (also_decodes definable.is_word word_text text_decodes)

shell_text : (text : List ℕ) → definable.is_shell_text text ≡ true → is_utf8 text ≡ true
shell_text text is = (and_parts _ (is_utf8 text) (and_parts _ (is_value text) (and_parts _ (definable.is_for_shell text) is).0).0).1

pub action_decodes : Decodes image.action_part action_at definable.can_run
unfolding action_at
action_decodes = record { finds = by_case }
  where
    by_case : (action : Option Action) (r : List ℕ) → definable.can_run action ≡ true → length (image.action_part action ++ r) ≤ MAX_IMAGE → action_at (image.action_part action ++ r) ≡ Some (action, r)
    by_case None r is small = refl
    by_case (Some (Words words)) r is small =
        let parts = and_parts _ (list_all definable.is_word words) is in
        rw (words_decode.finds words r (rw ((and_parts _ (nat_le (length words) MAX_ITEMS) parts.0).1, parts.1) refl) (omega (arith, small))) refl
    by_case (Some (Shell text)) r is small =
        rw (text_decodes.finds text r (shell_text text is) (omega (arith, small))) refl

-- the values of a leaf
leaf_value : (value : List ℕ) → definable.is_leaf_value value ≡ true → definable.is_token value ≡ true
leaf_value value is = (and_parts (definable.is_token value) _ is).0

keyed_part : (kind : ℕ) (key value r : List ℕ) (test : Test) → found.keyed_by kind key value ≡ Some test → is_key key ≡ true → definable.is_token value ≡ true
    → length ((text_part key ++ text_part value) ++ r) ≤ MAX_IMAGE
    → option_and_then (found.keyed_at kind) (text_at ((text_part key ++ text_part value) ++ r)) ≡ Some (test, r)
keyed_part kind key value r test by is_one is small =
    let apart = append_assoc (text_part key) (text_part value) r in
    let small_whole : length (text_part key ++ (text_part value ++ r)) ≤ MAX_IMAGE = omega (arith, small, ap length apart) in
    rw (apart, key_decodes.finds key (text_part value ++ r) is_one small_whole, token_decodes.finds value r is (shorter (text_part key) (text_part value ++ r) small_whole), by) refl

test_decodes : Decodes image.test_part test_at definable.is_test
unfolding test_at
test_decodes = record { finds = by_case }
  where
    by_case : (test : Test) (r : List ℕ) → definable.is_test test ≡ true → length (image.test_part test ++ r) ≤ MAX_IMAGE → test_at (image.test_part test ++ r) ≡ Some (test, r)
    by_case (Place value) r is small =
        rw (token_decodes.finds value r (leaf_value value (and_parts (definable.is_leaf_value value) _ is).0) (omega (arith, small))) refl
    by_case (Same key value) r is small =
        let parts = and_parts (is_key key) (definable.is_leaf_value value) is in
        keyed_part 1 key value r (Same key value) refl parts.0 (leaf_value value parts.1) (omega (arith, small))
    by_case (Differs key value) r is small =
        let parts = and_parts (is_key key) (definable.is_leaf_value value) is in
        keyed_part 2 key value r (Differs key value) refl parts.0 (leaf_value value parts.1) (omega (arith, small))

leaf_found : (leaf : Leaf) (r : List ℕ) → definable.is_leaf leaf ≡ true → image.is_countable leaf.values ≡ true
    → length (text_part leaf.event ++ image.list_part image.test_part leaf.values ++ r) ≤ MAX_IMAGE → leaf_at (text_part leaf.event ++ image.list_part image.test_part leaf.values ++ r) ≡ Some (leaf, r)
unfolding leaf_at
leaf_found leaf r is few small =
    let whole = and_parts (is_name leaf.event && list_all definable.is_test leaf.values && is_ordered leaf.values) (image.is_countable leaf.values) is in
    let parts = and_parts (is_name leaf.event && list_all definable.is_test leaf.values) (is_ordered leaf.values) whole.0 in
    let front = and_parts (is_name leaf.event) (list_all definable.is_test leaf.values) parts.0 in
    both_found (λ event tests. record { event = event; values = tests }) name_decodes (list_decodes test_decodes) leaf.event leaf.values r front.0 (rw (few, front.1) refl) small

-- the nodes of a tree
two_passed : (x y : ℕ) (r : List ℕ) → found.number_at 2 (x ∷ y ∷ r) ≡ Some (big_number 2 (x ∷ y ∷ r), r)
two_passed x y r = number_is 2 (x ∷ y ∷ r) (big_number 2 (x ∷ y ∷ r)) r (grind (arith, nat_tests)) refl refl

sides_passed : (x y z w : ℕ) (r : List ℕ) → found.after_sides (x ∷ y ∷ z ∷ w ∷ r) ≡ Some r
sides_passed x y z w r = rw (two_passed x y (z ∷ w ∷ r), two_passed z w r) refl

node_found : (leaf : Leaf) (trees : List Tree) (r : List ℕ) → definable.is_leaf leaf ≡ true → image.is_countable leaf.values ≡ true
    → length (image.node_part (node.Leaf leaf) ++ r) ≤ MAX_IMAGE → node_at trees (image.node_part (node.Leaf leaf) ++ r) ≡ Some (One leaf ∷ trees, r)
unfolding node_at
node_found leaf trees r is few small = rw (leaf_found leaf r is few (omega (arith, small))) refl

both_node : (a b : ℕ) (left right : Tree) (trees : List Tree) (r : List ℕ) → node_at (right ∷ left ∷ trees) (image.node_part (node.And a b) ++ r) ≡ Some (Both left right ∷ trees, r)
unfolding node_at
both_node a b left right trees r = rw (sides_passed _ _ _ _ r) refl

either_node : (a b : ℕ) (left right : Tree) (trees : List Tree) (r : List ℕ) → node_at (right ∷ left ∷ trees) (image.node_part (node.Or a b) ++ r) ≡ Some (Either left right ∷ trees, r)
unfolding node_at
either_node a b left right trees r = rw (sides_passed _ _ _ _ r) refl

-- one node more
one_node : (count n : ℕ) (trees now : List Tree) (part r : List ℕ) → count ≡ 1 + n → node_at trees (part ++ r) ≡ Some (now, r) → trees_at count trees ((part ++ []) ++ r) ≡ trees_at n now r
one_node count n trees now part r long is =
    let more : count ≡ suc n = omega (arith, long) in
    ap (λ k. trees_at k trees ((part ++ []) ++ r)) more
    ∙ ap (λ p. option_and_then (λ more. trees_at n more.0 more.1) (node_at trees (p ++ r))) (append-nil part)
    ∙ ap (λ x. option_and_then (λ more. trees_at n more.0 more.1) x) is

-- the parts of both sides' nodes and of a node after them, each before what stands after it
sides_apart : (left right : List Node) (top : Node) (r : List ℕ)
    → flat_map image.node_part (left ++ right ++ top ∷ []) ++ r ≡ flat_map image.node_part left ++ (flat_map image.node_part right ++ ((image.node_part top ++ []) ++ r))
sides_apart left right top r =
    ap (λ bytes. bytes ++ r) (flat_map-append image.node_part (left ++ right) (top ∷ []))
    ∙ ap (λ bytes. (bytes ++ (image.node_part top ++ [])) ++ r) (flat_map-append image.node_part left right)
    ∙ append_assoc (flat_map image.node_part left ++ flat_map image.node_part right) (image.node_part top ++ []) r
    ∙ append_assoc (flat_map image.node_part left) (flat_map image.node_part right) ((image.node_part top ++ []) ++ r)

sides_fit : (left right : List Node) (top : Node) → list_all image.fits_node (left ++ right ++ top ∷ []) ≡ true → (list_all image.fits_node left ≡ true) × (list_all image.fits_node right ≡ true)
sides_fit left right top all =
    let front = (and_parts _ _ (sym (list_all-append image.fits_node (left ++ right) (top ∷ [])) ∙ all)).0 in
    and_parts _ _ (sym (list_all-append image.fits_node left right) ∙ front)

pub trees_found : (tree : Tree) (start count n : ℕ) (trees : List Tree) (r : List ℕ) → definable.are_leaves tree ≡ true → list_all image.fits_node (nodes_of start tree) ≡ true
    → count ≡ size tree + n → length (flat_map image.node_part (nodes_of start tree) ++ r) ≤ MAX_IMAGE
    → trees_at count trees (flat_map image.node_part (nodes_of start tree) ++ r) ≡ trees_at n (tree ∷ trees) r
trees_found (One leaf) start count n trees r are fit long small =
    let few = (and_parts (image.is_countable leaf.values) true fit).0 in
    one_node count n trees (One leaf ∷ trees) (image.node_part (node.Leaf leaf)) r long
    (node_found leaf trees r are few (omega (arith, small, ap length (append-nil (image.node_part (node.Leaf leaf))), length-append (image.node_part (node.Leaf leaf) ++ []) r, length-append (image.node_part (node.Leaf leaf)) r)))
trees_found (Both left right) start count n trees r are fit long small =
    let top = node.And (start + size left - 1) (start + size left + size right - 1) in
    let ls = nodes_of start left in
    let rs = nodes_of (start + size left) right in
    let both = and_parts (definable.are_leaves left) (definable.are_leaves right) are in
    let fits = sides_fit ls rs top fit in
    let apart = sides_apart ls rs top r in
    let last = (image.node_part top ++ []) ++ r in
    let small_whole : length (flat_map image.node_part ls ++ (flat_map image.node_part rs ++ last)) ≤ MAX_IMAGE = omega (arith, small, ap length apart) in
    ap (λ bytes. trees_at count trees bytes) apart
    ∙ trees_found left start count (size right + (1 + n)) trees (flat_map image.node_part rs ++ last) both.0 fits.0 (omega (arith, long)) small_whole
    ∙ trees_found right (start + size left) (size right + (1 + n)) (1 + n) (left ∷ trees) last both.1 fits.1 refl (shorter (flat_map image.node_part ls) (flat_map image.node_part rs ++ last) small_whole)
    ∙ one_node (1 + n) n (right ∷ left ∷ trees) (Both left right ∷ trees) (image.node_part top) r refl (both_node _ _ left right trees r)
trees_found (Either left right) start count n trees r are fit long small =
    let top = node.Or (start + size left - 1) (start + size left + size right - 1) in
    let ls = nodes_of start left in
    let rs = nodes_of (start + size left) right in
    let both = and_parts (definable.are_leaves left) (definable.are_leaves right) are in
    let fits = sides_fit ls rs top fit in
    let apart = sides_apart ls rs top r in
    let last = (image.node_part top ++ []) ++ r in
    let small_whole : length (flat_map image.node_part ls ++ (flat_map image.node_part rs ++ last)) ≤ MAX_IMAGE = omega (arith, small, ap length apart) in
    ap (λ bytes. trees_at count trees bytes) apart
    ∙ trees_found left start count (size right + (1 + n)) trees (flat_map image.node_part rs ++ last) both.0 fits.0 (omega (arith, long)) small_whole
    ∙ trees_found right (start + size left) (size right + (1 + n)) (1 + n) (left ∷ trees) last both.1 fits.1 refl (shorter (flat_map image.node_part ls) (flat_map image.node_part rs ++ last) small_whole)
    ∙ one_node (1 + n) n (right ∷ left ∷ trees) (Either left right ∷ trees) (image.node_part top) r refl (either_node _ _ left right trees r)
