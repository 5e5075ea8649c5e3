-- Laws of lists in byte order of names.
use Rattle.std.proofs.Common.{◌≡◌, ℕ, zero, suc, ◌+◌, ◌<◌, ◌≤◌, Bool, true, false, cond, List, [], ◌∷◌, Option, None, Some, IsSome, option_map, map, length, get_or, set, insert, remove, bytes_eq, refl, sym, ◌∙◌, ap, subst, arith, add-one, true≢false}
use Rattle.std.specs.List.Sorted.{IsPartitionPoint, IsPartitionedBy}
use Rattle.std.specs.declared.cmp.Ordering.{Ordering}
use Rattle.std.specs.declared.cmp.Ordering.TheVariants.{Less, Equal, Greater}
use Rattle.std.specs.Ordering.{is_lt, is_eq, nat_cmp, ordering_reverse}
use Rattle.std.specs.Cmp.Lexicographic.{slice_cmp}
use Rattle.std.proofs.lemmas.Cmp.{nat_list_cmp_total}
use Rattle.std.proofs.lemmas.Map.Text.{is_eq-slice_cmp}
use Rattle.std.proofs.lemmas.Slice.Eq.{bytes_eq-Decides}
use Rattle.up_conf.specs.Order.{is_below}
use Rattle.up_job.specs.Named.{named, place_of, position, put, with_change, without, IsBelowAll, AreInOrder}
use Rattle.up_model.specs.Values.{Bytes}

less_of : (o : Ordering) → is_lt o ≡ true → o ≡ Less
less_of Less h = refl
less_of Equal h = absurd cc
less_of Greater h = absurd cc

lt_not_eq : (o : Ordering) → is_lt o ≡ true → is_eq o ≡ false
lt_not_eq Less h = refl
lt_not_eq Equal h = absurd cc
lt_not_eq Greater h = absurd cc

gt_of : (o : Ordering) → is_lt o ≡ false → is_eq o ≡ false → is_lt (ordering_reverse o) ≡ true
gt_of Less h e = absurd cc
gt_of Equal h e = absurd cc
gt_of Greater h e = refl

pub below_not_same : (a b : Bytes) → is_below a b ≡ true → bytes_eq a b ≡ false
below_not_same a b h = sym (is_eq-slice_cmp a b) ∙ lt_not_eq (slice_cmp nat_cmp a b) h

pub below_trans : (a b c : Bytes) → is_below a b ≡ true → is_below b c ≡ true → is_below a c ≡ true
below_trans a b c h g =
    ap is_lt (nat_list_cmp_total.trans a b c (less_of (slice_cmp nat_cmp a b) h) (less_of (slice_cmp nat_cmp b c) g))

pub above : (a b : Bytes) → is_below a b ≡ false → bytes_eq a b ≡ false → is_below b a ≡ true
above a b h e =
    ap is_lt (nat_list_cmp_total.antisymm b a) ∙ gt_of (slice_cmp nat_cmp a b) h (is_eq-slice_cmp a b ∙ e)

pub same_bytes : (a b : Bytes) → bytes_eq a b ≡ true → a ≡ b
same_bytes a b h = (bytes_eq-Decides a b).0 h

or_else : {X : Type 0} → Option X → X → X
or_else None x = x
or_else (Some y) x = y

pub some_same : {X : Type 0} (x y : X) → Some x ≡ Some y → x ≡ y
unfolding or_else
some_same x y h = ap (λ o. or_else o x) h

module _ {X : Type 0} (key : X → Bytes) where
  pub below_all_trans : (name k : Bytes) (xs : List X) → is_below name k ≡ true → IsBelowAll key k xs → IsBelowAll key name xs
  below_all_trans name k [] h b = tt
  below_all_trans name k (x ∷ xs) h b = (below_trans name k (key x) h b.0, below_all_trans name k xs h b.1)

  other_of : (name : Bytes) (x : X) → is_below name (key x) ≡ true → bytes_eq (key x) name ≡ false
  other_of name x h = by_case (bytes_eq (key x) name) refl
    where
      by_case : (b : Bool) → bytes_eq (key x) name ≡ b → b ≡ false
      by_case false e = refl
      by_case true e =
          let same = same_bytes (key x) name e in
          let self : is_below name name ≡ true = subst (λ k. is_below name k ≡ true) same h in
          absurd (true≢false (sym ((bytes_eq-Decides name name).1 refl) ∙ below_not_same name name self))

  -- what is below all of them names none
  pub below_all_absent : (name : Bytes) (xs : List X) → IsBelowAll key name xs → named key name xs ≡ None
  below_all_absent name [] b = refl
  below_all_absent name (x ∷ xs) b = rw (other_of name x b.0) (below_all_absent name xs b.1)

  -- if the first name is neither below a name nor that name, none has that name
  pub absent_from : (name : Bytes) (x : X) (xs : List X) → IsBelowAll key (key x) xs → is_below (key x) name ≡ false → bytes_eq (key x) name ≡ false
      → named key name xs ≡ None
  absent_from name x xs b not_below differs =
      below_all_absent name xs (below_all_trans name (key x) xs (above (key x) name not_below differs) b)

  pub position_within : (name : Bytes) (xs : List X) → position key name xs ≤ length xs
  position_within name [] = omega arith
  position_within name (x ∷ xs) = by_case (is_below (key x) name) (position_within name xs)
    where
      by_case : (b : Bool) → position key name xs ≤ length xs → cond b (position key name xs + 1) 0 ≤ length (x ∷ xs)
      by_case true h = omega arith
      by_case false h = omega arith

  pub put_at : (x : X) (xs : List X) → insert xs (position key (key x) xs) x ≡ put key x xs
  put_at x [] = refl
  put_at x (y ∷ ys) = by_case (is_below (key y) (key x)) (put_at x ys)
    where
      by_case : (b : Bool) → insert ys (position key (key x) ys) x ≡ put key x ys
          → insert (y ∷ ys) (cond b (position key (key x) ys + 1) 0) x ≡ cond b (y ∷ put key x ys) (x ∷ y ∷ ys)
      by_case true h = rw add-one (ap (λ rest. y ∷ rest) h)
      by_case false h = refl

  -- the one at the place of a name, if it has that name
  pub present_at : (name : Bytes) (xs : List X) (d : X) → position key name xs < length xs
      → bytes_eq (key (get_or xs (position key name xs) d)) name ≡ true
      → named key name xs ≡ Some (get_or xs (position key name xs) d)
  present_at name [] d within same = absurd (omega arith)
  present_at name (x ∷ xs) d within same = by_case (present_at name xs d) (is_below (key x) name) refl within same
    where
      by_case : (position key name xs < length xs → bytes_eq (key (get_or xs (position key name xs) d)) name ≡ true → named key name xs ≡ Some (get_or xs (position key name xs) d)) → (b : Bool) → is_below (key x) name ≡ b → cond b (position key name xs + 1) 0 < length (x ∷ xs)
          → bytes_eq (key (get_or (x ∷ xs) (cond b (position key name xs + 1) 0) d)) name ≡ true
          → named key name (x ∷ xs) ≡ Some (get_or (x ∷ xs) (cond b (position key name xs + 1) 0) d)
      by_case ih true below less e =
          let next : get_or (x ∷ xs) (position key name xs + 1) d ≡ get_or xs (position key name xs) d = ap (λ n. get_or (x ∷ xs) n d) (add-one (position key name xs)) in
          let e' : bytes_eq (key (get_or xs (position key name xs) d)) name ≡ true = ap (λ y. bytes_eq (key y) name) (sym next) ∙ e in
          rw (below_not_same (key x) name below) (ih (omega arith) e' ∙ ap (λ y. Some y) (sym next))
      by_case ih false below less e = rw e refl

  -- no name is that one, if all names are below it
  pub absent_past : (name : Bytes) (xs : List X) → length xs ≤ position key name xs → named key name xs ≡ None
  absent_past name [] past = refl
  absent_past name (x ∷ xs) past = by_case (absent_past name xs) (is_below (key x) name) refl past
    where
      by_case : (length xs ≤ position key name xs → named key name xs ≡ None) → (b : Bool) → is_below (key x) name ≡ b → length (x ∷ xs) ≤ cond b (position key name xs + 1) 0 → named key name (x ∷ xs) ≡ None
      by_case ih true below le = rw (below_not_same (key x) name below) (ih (omega arith))
      by_case ih false below le = absurd (omega arith)

  pub absent_at : (name : Bytes) (xs : List X) (d : X) → AreInOrder key xs → position key name xs < length xs
      → bytes_eq (key (get_or xs (position key name xs) d)) name ≡ false → named key name xs ≡ None
  absent_at name [] d order within differs = refl
  absent_at name (x ∷ xs) d order within differs = by_case (absent_at name xs d order.1) (is_below (key x) name) refl within differs
    where
      by_case : (position key name xs < length xs → bytes_eq (key (get_or xs (position key name xs) d)) name ≡ false → named key name xs ≡ None) → (b : Bool) → is_below (key x) name ≡ b → cond b (position key name xs + 1) 0 < length (x ∷ xs)
          → bytes_eq (key (get_or (x ∷ xs) (cond b (position key name xs + 1) 0) d)) name ≡ false → named key name (x ∷ xs) ≡ None
      by_case ih true below less e =
          let next : get_or (x ∷ xs) (position key name xs + 1) d ≡ get_or xs (position key name xs) d = ap (λ n. get_or (x ∷ xs) n d) (add-one (position key name xs)) in
          let e' : bytes_eq (key (get_or xs (position key name xs) d)) name ≡ false = ap (λ y. bytes_eq (key y) name) (sym next) ∙ e in
          rw (below_not_same (key x) name below) (ih (omega arith) e')
      by_case ih false below less e = rw e (absent_from name x xs order.0 below e)

  -- the one that is there stands at the place of its name
  pub found_at : (name : Bytes) (xs : List X) (d : X) → AreInOrder key xs → IsSome (named key name xs)
      → named key name xs ≡ Some (get_or xs (position key name xs) d)
  found_at name [] d order there = absurd (true≢false (sym there))
  found_at name (x ∷ xs) d order there = by_case (found_at name xs d order.1) (is_below (key x) name) refl (bytes_eq (key x) name) refl there
    where
      by_case : (IsSome (named key name xs) → named key name xs ≡ Some (get_or xs (position key name xs) d)) → (b : Bool) → is_below (key x) name ≡ b → (e : Bool) → bytes_eq (key x) name ≡ e → IsSome (cond e (Some x) (named key name xs))
          → named key name (x ∷ xs) ≡ Some (get_or (x ∷ xs) (cond b (position key name xs + 1) 0) d)
      by_case ih true below true same some = absurd (true≢false (sym same ∙ below_not_same (key x) name below))
      by_case ih true below false same some =
          let next : get_or (x ∷ xs) (position key name xs + 1) d ≡ get_or xs (position key name xs) d = ap (λ n. get_or (x ∷ xs) n d) (add-one (position key name xs)) in
          rw same (ih some ∙ ap (λ y. Some y) (sym next))
      by_case ih false below true same some = rw same refl
      by_case ih false below false same some =
          absurd (true≢false (sym (subst IsSome (absent_from name x xs order.0 below same) some)))

  pub without_at : (name : Bytes) (xs : List X) → AreInOrder key xs → IsSome (named key name xs)
      → remove xs (position key name xs) ≡ without key name xs
  without_at name [] order there = absurd (true≢false (sym there))
  without_at name (x ∷ xs) order there = by_case (without_at name xs order.1) (is_below (key x) name) refl (bytes_eq (key x) name) refl there
    where
      by_case : (IsSome (named key name xs) → remove xs (position key name xs) ≡ without key name xs) → (b : Bool) → is_below (key x) name ≡ b → (e : Bool) → bytes_eq (key x) name ≡ e → IsSome (cond e (Some x) (named key name xs))
          → remove (x ∷ xs) (cond b (position key name xs + 1) 0) ≡ cond e xs (x ∷ without key name xs)
      by_case ih true below true same some = absurd (true≢false (sym same ∙ below_not_same (key x) name below))
      by_case ih true below false same some =
          ap (λ n. remove (x ∷ xs) n) (add-one (position key name xs)) ∙ ap (λ rest. x ∷ rest) (ih some)
      by_case ih false below true same some = refl
      by_case ih false below false same some =
          absurd (true≢false (sym (subst IsSome (absent_from name x xs order.0 below same) some)))

  -- one that has the name is at a place within the list
  pub found_within : (name : Bytes) (xs : List X) → AreInOrder key xs → IsSome (named key name xs) → position key name xs < length xs
  found_within name [] order there = absurd (true≢false (sym there))
  found_within name (x ∷ xs) order there = by_case (found_within name xs order.1) (is_below (key x) name) refl (bytes_eq (key x) name) refl there
    where
      by_case : (IsSome (named key name xs) → position key name xs < length xs) → (b : Bool) → is_below (key x) name ≡ b → (e : Bool) → bytes_eq (key x) name ≡ e → IsSome (cond e (Some x) (named key name xs))
          → cond b (position key name xs + 1) 0 < length (x ∷ xs)
      by_case ih true below true same some = absurd (true≢false (sym same ∙ below_not_same (key x) name below))
      by_case ih true below false same some = omega (arith, ih some)
      by_case ih false below e same some = omega arith

  -- the names below one come first
  pub parted : (name : Bytes) (xs : List X) → AreInOrder key xs → IsPartitionedBy (λ x. is_below (key x) name) xs
  parted name [] order i j d le less h = absurd (omega arith)
  parted name (x ∷ xs) order zero zero d le less h = h
  parted name (x ∷ xs) order zero (suc j) d le less h = below_trans (key x) (key (get_or xs j d)) name (below_one xs order.0 j d (omega arith)) h
    where
      below_one : (ys : List X) → IsBelowAll key (key x) ys → (n : ℕ) (e : X) → n < length ys → is_below (key x) (key (get_or ys n e)) ≡ true
      below_one [] b n e l = absurd (omega arith)
      below_one (y ∷ ys) b zero e l = b.0
      below_one (y ∷ ys) b (suc n) e l = below_one ys b.1 n e (omega arith)
  parted name (x ∷ xs) order (suc i) zero d le less h = absurd (omega arith)
  parted name (x ∷ xs) order (suc i) (suc j) d le less h = parted name xs order.1 i j d (omega arith) (omega arith) h

  -- so their end is the place of the name
  pub parted_at : (name : Bytes) (xs : List X) (i : ℕ) → i ≤ length xs
      → IsPartitionPoint (λ x. is_below (key x) name ≡ true) (λ x. is_below (key x) name ≡ false) xs i → i ≡ position key name xs
  parted_at name [] i le point = omega arith
  parted_at name (x ∷ xs) zero le point = rw (point.1 0 x (omega arith) (omega arith)) refl
  parted_at name (x ∷ xs) (suc i) le point =
      rw (point.0 0 x (omega arith) (omega arith))
      (sym (add-one i) ∙ ap (λ n. n + 1) (parted_at name xs i (omega arith)
      (λ k d low high. point.0 (suc k) d (omega arith) (omega arith), λ k d low high. point.1 (suc k) d (omega arith) (omega arith))))

  below_all_put : (k : Bytes) (x : X) (xs : List X) → is_below k (key x) ≡ true → IsBelowAll key k xs → IsBelowAll key k (put key x xs)
  below_all_put k x [] h b = (h, tt)
  below_all_put k x (y ∷ ys) h b = by_case (below_all_put k x ys) (is_below (key y) (key x))
    where
      by_case : (is_below k (key x) ≡ true → IsBelowAll key k ys → IsBelowAll key k (put key x ys)) → (c : Bool) → IsBelowAll key k (cond c (y ∷ put key x ys) (x ∷ y ∷ ys))
      by_case ih true = (b.0, ih h b.1)
      by_case ih false = (h, b)

  pub order_put : (x : X) (xs : List X) → AreInOrder key xs → named key (key x) xs ≡ None → AreInOrder key (put key x xs)
  order_put x [] order absent = (tt, tt)
  order_put x (y ∷ ys) order absent = by_case (order_put x ys order.1) (is_below (key y) (key x)) refl (bytes_eq (key y) (key x)) refl absent
    where
      by_case : (named key (key x) ys ≡ None → AreInOrder key (put key x ys)) → (c : Bool) → is_below (key y) (key x) ≡ c → (e : Bool) → bytes_eq (key y) (key x) ≡ e → cond e (Some y) (named key (key x) ys) ≡ None
          → AreInOrder key (cond c (y ∷ put key x ys) (x ∷ y ∷ ys))
      by_case ih c below true same none = absurd cc
      by_case ih true below false same none = (below_all_put (key y) x ys below order.0, ih none)
      by_case ih false below false same none =
          let up = above (key y) (key x) below same in
          ((up, below_all_trans (key x) (key y) ys up order.0), order)

  below_all_without : (k name : Bytes) (xs : List X) → IsBelowAll key k xs → IsBelowAll key k (without key name xs)
  below_all_without k name [] b = tt
  below_all_without k name (x ∷ xs) b = by_case (below_all_without k name xs b.1) (bytes_eq (key x) name)
    where
      by_case : (IsBelowAll key k (without key name xs)) → (c : Bool) → IsBelowAll key k (cond c xs (x ∷ without key name xs))
      by_case ih true = b.1
      by_case ih false = (b.0, ih)

  pub order_without : (name : Bytes) (xs : List X) → AreInOrder key xs → AreInOrder key (without key name xs)
  order_without name [] order = tt
  order_without name (x ∷ xs) order = by_case (order_without name xs order.1) (bytes_eq (key x) name)
    where
      by_case : (AreInOrder key (without key name xs)) → (c : Bool) → AreInOrder key (cond c xs (x ∷ without key name xs))
      by_case ih true = order.1
      by_case ih false = (below_all_without (key x) name xs order.0, ih)

  pub length_put : (x : X) (xs : List X) → length (put key x xs) ≡ length xs + 1
  length_put x [] = refl
  length_put x (y ∷ ys) = by_case (is_below (key y) (key x)) (length_put x ys)
    where
      by_case : (c : Bool) → length (put key x ys) ≡ length ys + 1 → length (cond c (y ∷ put key x ys) (x ∷ y ∷ ys)) ≡ length (y ∷ ys) + 1
      by_case true h = omega (arith, h)
      by_case false h = omega arith

  pub length_without : (name : Bytes) (xs : List X) → length (without key name xs) ≤ length xs
  length_without name [] = omega arith
  length_without name (x ∷ xs) = by_case (bytes_eq (key x) name) (length_without name xs)
    where
      by_case : (c : Bool) → length (without key name xs) ≤ length xs → length (cond c xs (x ∷ without key name xs)) ≤ length (x ∷ xs)
      by_case true h = omega arith
      by_case false h = omega (arith, h)

  -- what names find after one more was put in
  pub named_put : (k : Bytes) (x : X) (xs : List X) → named key (key x) xs ≡ None
      → named key k (put key x xs) ≡ cond (bytes_eq (key x) k) (Some x) (named key k xs)
  named_put k x [] absent = refl
  named_put k x (y ∷ ys) absent = by_case (named_put k x ys) (is_below (key y) (key x)) (bytes_eq (key y) (key x)) refl absent
    where
      apart : (e : Bool) → bytes_eq (key y) k ≡ e → (f : Bool) → bytes_eq (key x) k ≡ f → bytes_eq (key y) (key x) ≡ false
          → cond e (Some y) (cond f (Some x) (named key k ys)) ≡ cond f (Some x) (cond e (Some y) (named key k ys))
      apart true he true hf differs =
          absurd (true≢false (sym ((bytes_eq-Decides (key y) (key x)).1 (same_bytes (key y) k he ∙ sym (same_bytes (key x) k hf))) ∙ differs))
      apart true he false hf differs = refl
      apart false he f hf differs = refl

      by_case : (named key (key x) ys ≡ None → named key k (put key x ys) ≡ cond (bytes_eq (key x) k) (Some x) (named key k ys)) → (c e : Bool) → bytes_eq (key y) (key x) ≡ e → cond e (Some y) (named key (key x) ys) ≡ None
          → named key k (cond c (y ∷ put key x ys) (x ∷ y ∷ ys)) ≡ cond (bytes_eq (key x) k) (Some x) (named key k (y ∷ ys))
      by_case ih c true same none = absurd cc
      by_case ih false false same none = refl
      by_case ih true false same none =
          ap (λ rest. cond (bytes_eq (key y) k) (Some y) rest) (ih none) ∙ apart (bytes_eq (key y) k) refl (bytes_eq (key x) k) refl same

  -- what names find after the one of a name was taken out
  pub named_without : (k name : Bytes) (xs : List X) → AreInOrder key xs
      → named key k (without key name xs) ≡ cond (bytes_eq name k) None (named key k xs)
  named_without k name [] order = by_case (bytes_eq name k)
    where
      by_case : (c : Bool) → named key k [] ≡ cond c None (named key k [])
      by_case true = refl
      by_case false = refl
  named_without k name (x ∷ xs) order = by_case (named_without k name xs order.1) (bytes_eq (key x) name) refl
    where
      apart : (e : Bool) → bytes_eq (key x) k ≡ e → (f : Bool) → bytes_eq name k ≡ f → bytes_eq (key x) name ≡ false
          → cond e (Some x) (cond f None (named key k xs)) ≡ cond f None (cond e (Some x) (named key k xs))
      apart true he true hf differs =
          absurd (true≢false (sym ((bytes_eq-Decides (key x) name).1 (same_bytes (key x) k he ∙ sym (same_bytes name k hf))) ∙ differs))
      apart true he false hf differs = refl
      apart false he f hf differs = refl

      here : (f : Bool) → bytes_eq name k ≡ f → bytes_eq (key x) name ≡ true
          → named key k xs ≡ cond f None (cond (bytes_eq (key x) k) (Some x) (named key k xs))
      here true e same =
          below_all_absent k xs (subst (λ n. IsBelowAll key n xs) (same_bytes (key x) name same ∙ same_bytes name k e) order.0)
      here false e same = rw (subst (λ n. bytes_eq n k ≡ false) (sym (same_bytes (key x) name same)) e) refl

      by_case : named key k (without key name xs) ≡ cond (bytes_eq name k) None (named key k xs) → (c : Bool) → bytes_eq (key x) name ≡ c
          → named key k (cond c xs (x ∷ without key name xs)) ≡ cond (bytes_eq name k) None (named key k (x ∷ xs))
      by_case ih true same = here (bytes_eq name k) refl same
      by_case ih false same =
          ap (λ rest. cond (bytes_eq (key x) k) (Some x) rest) ih ∙ apart (bytes_eq (key x) k) refl (bytes_eq name k) refl same

  -- what a name finds has that name
  pub has_name : (name : Bytes) (xs : List X) (y : X) → named key name xs ≡ Some y → key y ≡ name
  has_name name [] y found = absurd cc
  has_name name (x ∷ xs) y found = by_case (has_name name xs y) (bytes_eq (key x) name) refl found
    where
      by_case : (named key name xs ≡ Some y → key y ≡ name) → (c : Bool) → bytes_eq (key x) name ≡ c → cond c (Some x) (named key name xs) ≡ Some y → key y ≡ name
      by_case ih true same e = subst (λ z. key z ≡ name) (some_same x y e) (same_bytes (key x) name same)
      by_case ih false same e = ih e

  -- the same at a place that is known to be the name's
  pub within_here : (name : Bytes) (xs : List X) (n : ℕ) → n ≡ position key name xs → AreInOrder key xs → IsSome (named key name xs) → n < length xs
  within_here name xs n at order there = subst (λ m. m < length xs) (sym at) (found_within name xs order there)

  pub named_here : (name : Bytes) (xs : List X) (n : ℕ) (d : X) → n ≡ position key name xs → AreInOrder key xs → IsSome (named key name xs)
      → named key name xs ≡ Some (get_or xs n d)
  named_here name xs n d at order there = found_at name xs d order there ∙ ap (λ m. Some (get_or xs m d)) (sym at)

  pub present_here : (name : Bytes) (xs : List X) (n : ℕ) (d : X) → n ≡ position key name xs → n < length xs
      → bytes_eq (key (get_or xs n d)) name ≡ true → IsSome (named key name xs)
  present_here name xs n d at within same =
      let found = present_at name xs d (subst (λ m. m < length xs) at within) (subst (λ m. bytes_eq (key (get_or xs m d)) name ≡ true) at same) in
      subst IsSome (sym found) refl

  pub absent_here : (name : Bytes) (xs : List X) (n : ℕ) (d : X) → n ≡ position key name xs → AreInOrder key xs → n < length xs
      → bytes_eq (key (get_or xs n d)) name ≡ false → named key name xs ≡ None
  absent_here name xs n d at order within differs =
      absent_at name xs d order (subst (λ m. m < length xs) at within) (subst (λ m. bytes_eq (key (get_or xs m d)) name ≡ false) at differs)

  pub absent_beyond : (name : Bytes) (xs : List X) (n : ℕ) → n ≡ position key name xs → length xs ≤ n → named key name xs ≡ None
  absent_beyond name xs n at past = absent_past name xs (subst (λ m. length xs ≤ m) at past)

  -- a write of the one that has the name, changed
  pub changed_at : (name : Bytes) (f : X → X) (xs : List X) (d : X) → AreInOrder key xs → IsSome (named key name xs)
      → d ≡ get_or xs (position key name xs) d → set xs (position key name xs) (f d) ≡ with_change key name f xs
  changed_at name f [] d order there is = absurd (true≢false (sym there))
  changed_at name f (x ∷ xs) d order there is = by_case (changed_at name f xs d order.1) (is_below (key x) name) refl (bytes_eq (key x) name) refl there is
    where
      by_case : (IsSome (named key name xs) → d ≡ get_or xs (position key name xs) d → set xs (position key name xs) (f d) ≡ with_change key name f xs) → (b : Bool) → is_below (key x) name ≡ b → (e : Bool) → bytes_eq (key x) name ≡ e
          → IsSome (cond e (Some x) (named key name xs)) → d ≡ get_or (x ∷ xs) (cond b (position key name xs + 1) 0) d
          → set (x ∷ xs) (cond b (position key name xs + 1) 0) (f d) ≡ cond e (f x ∷ xs) (x ∷ with_change key name f xs)
      by_case ih true below true same some is = absurd (true≢false (sym same ∙ below_not_same (key x) name below))
      by_case ih true below false same some is =
          let next : get_or (x ∷ xs) (position key name xs + 1) d ≡ get_or xs (position key name xs) d = ap (λ n. get_or (x ∷ xs) n d) (add-one (position key name xs)) in
          ap (λ n. set (x ∷ xs) n (f d)) (add-one (position key name xs)) ∙ ap (λ rest. x ∷ rest) (ih some (is ∙ next))
      by_case ih false below true same some is = ap (λ y. f y ∷ xs) is
      by_case ih false below false same some is =
          absurd (true≢false (sym (subst IsSome (absent_from name x xs order.0 below same) some)))

  pub changed_here : (name : Bytes) (f : X → X) (xs : List X) (n : ℕ) (d : X) → n ≡ position key name xs → AreInOrder key xs → IsSome (named key name xs)
      → d ≡ get_or xs n d → set xs n (f d) ≡ with_change key name f xs
  changed_here name f xs n d at order there is =
      ap (λ m. set xs m (f d)) at ∙ changed_at name f xs d order there (is ∙ ap (λ m. get_or xs m d) at)

  -- the names of a list say whether it is in order
  below_all-names : (name : Bytes) (xs ys : List X) → map key xs ≡ map key ys → IsBelowAll key name xs → IsBelowAll key name ys
  below_all-names name [] [] same b = tt
  below_all-names name [] (y ∷ ys) same b = absurd cc
  below_all-names name (x ∷ xs) [] same b = tt
  below_all-names name (x ∷ xs) (y ∷ ys) same b =
      let first : key x ≡ key y = cc in
      let rest : map key xs ≡ map key ys = cc in
      (subst (λ k. is_below name k ≡ true) first b.0, below_all-names name xs ys rest b.1)

  pub order-names : (xs ys : List X) → map key xs ≡ map key ys → AreInOrder key xs → AreInOrder key ys
  order-names [] [] same order = tt
  order-names [] (y ∷ ys) same order = absurd cc
  order-names (x ∷ xs) [] same order = tt
  order-names (x ∷ xs) (y ∷ ys) same order =
      let first : key x ≡ key y = cc in
      let rest : map key xs ≡ map key ys = cc in
      (below_all-names (key y) xs ys rest (subst (λ k. IsBelowAll key k xs) first order.0), order-names xs ys rest order.1)

  pub names-with_change : (name : Bytes) (f : X → X) → ((x : X) → key (f x) ≡ key x) → (xs : List X) → map key xs ≡ map key (with_change key name f xs)
  names-with_change name f same [] = refl
  names-with_change name f same (x ∷ xs) = by_case (bytes_eq (key x) name) (names-with_change name f same xs)
    where
      by_case : (e : Bool) → map key xs ≡ map key (with_change key name f xs) → map key (x ∷ xs) ≡ map key (cond e (f x ∷ xs) (x ∷ with_change key name f xs))
      by_case true ih = ap (λ k. k ∷ map key xs) (sym (same x))
      by_case false ih = ap (λ ks. key x ∷ ks) ih

  -- what names find after the one of a name changed
  pub named_changed : (k name : Bytes) (f : X → X) → ((x : X) → key (f x) ≡ key x) → (xs : List X)
      → named key k (with_change key name f xs) ≡ cond (bytes_eq name k) (option_map f (named key k xs)) (named key k xs)
  named_changed k name f same [] = by_case (bytes_eq name k)
    where
      by_case : (c : Bool) → named key k [] ≡ cond c (option_map f (named key k [])) (named key k [])
      by_case true = refl
      by_case false = refl
  named_changed k name f same (x ∷ xs) = by_case (named_changed k name f same xs) (bytes_eq (key x) name) refl
    where
      here : (e : Bool) → bytes_eq name k ≡ e → bytes_eq (key x) name ≡ true
          → cond (bytes_eq (key (f x)) k) (Some (f x)) (named key k xs) ≡ cond e (option_map f (cond (bytes_eq (key x) k) (Some x) (named key k xs))) (cond (bytes_eq (key x) k) (Some x) (named key k xs))
      here true e its = rw (same x, same_bytes (key x) name its, e) refl
      here false e its = rw (same x, same_bytes (key x) name its, e) refl

      apart : (e : Bool) → bytes_eq name k ≡ e → (g : Bool) → bytes_eq (key x) k ≡ g → bytes_eq (key x) name ≡ false
          → cond g (Some x) (cond e (option_map f (named key k xs)) (named key k xs)) ≡ cond e (option_map f (cond g (Some x) (named key k xs))) (cond g (Some x) (named key k xs))
      apart true e true g its =
          absurd (true≢false (sym ((bytes_eq-Decides (key x) name).1 (same_bytes (key x) k g ∙ sym (same_bytes name k e))) ∙ its))
      apart true e false g its = refl
      apart false e true g its = refl
      apart false e false g its = refl

      by_case : named key k (with_change key name f xs) ≡ cond (bytes_eq name k) (option_map f (named key k xs)) (named key k xs) → (c : Bool) → bytes_eq (key x) name ≡ c
          → named key k (cond c (f x ∷ xs) (x ∷ with_change key name f xs)) ≡ cond (bytes_eq name k) (option_map f (named key k (x ∷ xs))) (named key k (x ∷ xs))
      by_case ih true its = here (bytes_eq name k) refl its
      by_case ih false its = ap (λ rest. cond (bytes_eq (key x) k) (Some x) rest) ih ∙ apart (bytes_eq name k) refl (bytes_eq (key x) k) refl its

  -- the place of a name is where it belongs, if it is there
  pub place_found : (name : Bytes) (xs : List X) → AreInOrder key xs → IsSome (named key name xs) → place_of key name xs ≡ Some (position key name xs)
  place_found name [] order there = absurd (true≢false (sym there))
  place_found name (x ∷ xs) order there = by_case (place_found name xs order.1) (is_below (key x) name) refl (bytes_eq (key x) name) refl there
    where
      by_case : (IsSome (named key name xs) → place_of key name xs ≡ Some (position key name xs)) → (b : Bool) → is_below (key x) name ≡ b → (e : Bool) → bytes_eq (key x) name ≡ e → IsSome (cond e (Some x) (named key name xs))
          → cond e (Some 0) (option_map (λ at. at + 1) (place_of key name xs)) ≡ Some (cond b (position key name xs + 1) 0)
      by_case ih true below true same some = absurd (true≢false (sym same ∙ below_not_same (key x) name below))
      by_case ih true below false same some = ap (λ o. option_map (λ at. at + 1) o) (ih some)
      by_case ih false below true same some = refl
      by_case ih false below false same some =
          absurd (true≢false (sym (subst IsSome (absent_from name x xs order.0 below same) some)))

  pub place_absent : (name : Bytes) (xs : List X) → named key name xs ≡ None → place_of key name xs ≡ None
  place_absent name [] absent = refl
  place_absent name (x ∷ xs) absent = by_case (place_absent name xs) (bytes_eq (key x) name) absent
    where
      by_case : (named key name xs ≡ None → place_of key name xs ≡ None) → (e : Bool) → cond e (Some x) (named key name xs) ≡ None → cond e (Some 0) (option_map (λ at. at + 1) (place_of key name xs)) ≡ None
      by_case ih true none = absurd cc
      by_case ih false none = ap (λ o. option_map (λ at. at + 1) o) (ih none)
