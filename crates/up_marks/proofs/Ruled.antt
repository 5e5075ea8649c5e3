-- An event that each leaf of an expression rules out changes nothing of it.
use Rattle.std.proofs.Common.{◌≡◌, ℕ, ◌+◌, ◌==◌, Bool, true, false, cond, not, List, [], ◌∷◌, ◌++◌, Option, None, Some, is_some, option_map, bytes_eq, refl, sym, ◌∙◌, ap, if◌then◌else◌}
use Rattle.std.specs.List.{list_all}
use Rattle.std.specs.Option.{option_to_list}
use Rattle.std.proofs.lemmas.Bool.{and_parts, and_from, not-true}
use Rattle.std.proofs.lemmas.List.{append-nil}
use Rattle.up_expr.specs.declared.expr.Leaf.{Leaf}
use Rattle.up_expr.specs.declared.expr.Test.{Test}
use Rattle.up_expr.specs.declared.expr.Test.TheVariants as test
use Rattle.up_expr.specs.Flat.{size}
use Rattle.up_expr.specs.Matching.{pattern_of, meets, nth_value, test_holds, tests_hold, next_place, matches}
use Rattle.up_expr.specs.Trees.{Tree, One, Both, Either}
use Rattle.up_expr.specs.Truth.{Sight, first}
use Rattle.up_expr.specs.Truth as truth
use Rattle.up_model.specs.declared.event.Event.{Event}
use Rattle.up_model.specs.declared.event_id.EventId.{EventId}
use Rattle.up_model.specs.Chronicle.{Chronicle, Expression, Offered, StartOn, StopOn}
use Rattle.up_model.specs.Configuration.{Configuration}
use Rattle.up_model.specs.Readings.{event_at}
use Rattle.up_model.specs.Seen.{seen, sight_of, env_of, holds, kept, taken, same_expression}
use Rattle.up_pattern.specs.Matching.{is_wild}
use Rattle.up_pattern.proofs.PatternLaws.{literal-glob}
use Rattle.up_text.specs.Bindings.{value_of}
use Rattle.up_text.specs.Expansion.{Expands, expand}
use Rattle.up_text.specs.Pattern.{supported, glob}
use Rattle.up_text.proofs.Literal.{expand_literal}
use Rattle.up_value.specs.Values.{Bytes, Bindings}
use Rattle.up_marks.specs.declared.mark.Mark.{Mark}
use Rattle.up_marks.specs.Agreeing.{Agrees, KeepsFirst}
use Rattle.up_marks.specs.Marking.{Kept}
use Rattle.up_marks.specs.Ruling.{is_literal_byte, is_literal, is_another, fails, one_fails, rules_out, may_match, may_hear}
use Rattle.up_marks.specs.Skipping.{Next, Stops, Starts, condition_of, expression_of, offer_to}
use Rattle.up_marks.proofs.NameLemmas.{or_parts}
use Rattle.up_marks.proofs.SkipLemmas.{seen_own, seen_other}

-- a literal expands to itself, and matches itself alone
no-dollar : (text : List ℕ) → is_literal text ≡ true → list_all (λ byte. not (byte == 36)) text ≡ true
no-dollar [] all = refl
no-dollar (byte ∷ text) all =
    let parts = and_parts (is_literal_byte byte) (is_literal text) all in
    let its = and_parts (not (byte == 36)) (not (is_wild byte)) parts.0 in
    and_from (not (byte == 36)) (list_all (λ b. not (b == 36)) text) its.0 (no-dollar text parts.1)

no-wild : (text : List ℕ) → is_literal text ≡ true → list_all (λ byte. not (is_wild byte)) text ≡ true
no-wild [] all = refl
no-wild (byte ∷ text) all =
    let parts = and_parts (is_literal_byte byte) (is_literal text) all in
    let its = and_parts (not (byte == 36)) (not (is_wild byte)) parts.0 in
    and_from (not (is_wild byte)) (list_all (λ b. not (is_wild b)) text) its.1 (no-wild text parts.1)

meets-unmatched : (pattern : Bytes) (found : Bytes) → glob pattern found ≡ false → meets (if supported pattern then Some pattern else None) (Some found) ≡ false
meets-unmatched pattern found none = by_case (supported pattern)
  where
    by_case : (b : Bool) → meets (if b then Some pattern else None) (Some found) ≡ false
    by_case true = none
    by_case false = refl

meets-none : (pattern : Option Bytes) → meets pattern None ≡ false
meets-none None = refl
meets-none (Some pattern) = refl

another-fails : (value : Bytes) (env : Bindings) (found : Option Bytes) → is_another value found ≡ true → meets (pattern_of (expand value env)) found ≡ false
another-fails value env None other = meets-none (pattern_of (expand value env))
another-fails value env (Some found) other =
    let parts = and_parts (not (bytes_eq value found)) (is_literal value) other in
    let same : expand value env ≡ Expands value = expand_literal value env (no-dollar value parts.1) in
    let apart : glob value found ≡ false = literal-glob value found (no-wild value parts.1) ∙ not-true (bytes_eq value found) parts.0 in
    ap (λ e. meets (pattern_of e) (Some found)) same ∙ meets-unmatched value found apart

fails-so : (vars env : Bindings) (k : ℕ) (its : Test) → fails vars k its ≡ true → test_holds vars env k its ≡ false
fails-so vars env k (test.Place value) other = another-fails value env (nth_value k vars) other
fails-so vars env k (test.Same key value) other = another-fails value env (value_of key vars) other
fails-so vars env k (test.Differs key value) other = absurd (cc)

one-fails-so : (vars env : Bindings) (k : ℕ) (tests : List Test) → one_fails vars k tests ≡ true → tests_hold vars env k tests ≡ false
one-fails-so vars env k [] other = absurd (cc)
one-fails-so vars env k (its ∷ tests) other = by_case (fails vars k its) refl other (test_holds vars env k its) refl (one-fails-so vars env (next_place k its) tests)
  where
    by_case : (b : Bool) → fails vars k its ≡ b → (if b then true else one_fails vars (next_place k its) tests) ≡ true → (h : Bool) → test_holds vars env k its ≡ h
        → (one_fails vars (next_place k its) tests ≡ true → tests_hold vars env (next_place k its) tests ≡ false)
        → (if h then tests_hold vars env (next_place k its) tests else false) ≡ false
    by_case b is other false holds_ rest = refl
    by_case true is other true holds_ rest =
        let not_ : true ≡ false = sym holds_ ∙ fails-so vars env k its is in
        absurd cc
    by_case false is other true holds_ rest = rest other

-- a leaf that rules an event out doesn't match it
pub ruled-matches : (leaf : Leaf) (name : Bytes) (vars env : Bindings) → rules_out leaf name vars ≡ true → matches leaf name vars env ≡ false
ruled-matches leaf name vars env out = by_case (bytes_eq name leaf.event) out
  where
    by_case : (b : Bool) → (if b then one_fails vars 0 leaf.values else true) ≡ true → (if b then tests_hold vars env 0 leaf.values else false) ≡ false
    by_case true out = one-fails-so vars env 0 leaf.values out
    by_case false out = refl

not-false : (b : Bool) → not b ≡ false → b ≡ true
not-false true is = refl
not-false false is = absurd (cc)

first-ruled : (leaf : Leaf) (sights : List Sight) (s : Sight) → not (rules_out leaf s.name s.vars) ≡ false → first leaf (sights ++ s ∷ []) ≡ first leaf sights
first-ruled leaf [] s out = rw (ruled-matches leaf s.name s.vars s.env (not-false (rules_out leaf s.name s.vars) out)) refl
first-ruled leaf (sight ∷ sights) s out = ap (λ f. cond (matches leaf sight.name sight.vars sight.env) (Some sight.event) f) (first-ruled leaf sights s out)

holds-ruled : (tree : Tree) (sights : List Sight) (s : Sight) → may_match tree s.name s.vars ≡ false → truth.holds tree (sights ++ s ∷ []) ≡ truth.holds tree sights
holds-ruled (One leaf) sights s out = ap is_some (first-ruled leaf sights s out)
holds-ruled (Both l r) sights s out =
    let parts = or_parts (may_match l s.name s.vars) (may_match r s.name s.vars) out in
    rw (holds-ruled l sights s parts.0, holds-ruled r sights s parts.1) refl
holds-ruled (Either l r) sights s out =
    let parts = or_parts (may_match l s.name s.vars) (may_match r s.name s.vars) out in
    rw (holds-ruled l sights s parts.0, holds-ruled r sights s parts.1) refl

kept-ruled : (tree : Tree) (sights : List Sight) (s : Sight) → may_match tree s.name s.vars ≡ false → truth.kept tree (sights ++ s ∷ []) ≡ truth.kept tree sights
kept-ruled (One leaf) sights s out = ap option_to_list (first-ruled leaf sights s out)
kept-ruled (Both l r) sights s out =
    let parts = or_parts (may_match l s.name s.vars) (may_match r s.name s.vars) out in
    rw (kept-ruled l sights s parts.0, kept-ruled r sights s parts.1) refl
kept-ruled (Either l r) sights s out =
    let parts = or_parts (may_match l s.name s.vars) (may_match r s.name s.vars) out in
    rw (kept-ruled l sights s parts.0, kept-ruled r sights s parts.1) refl

taken-ruled : (tree : Tree) (sights : List Sight) (s : Sight) → may_match tree s.name s.vars ≡ false → truth.taken tree (sights ++ s ∷ []) ≡ truth.taken tree sights
taken-ruled (One leaf) sights s out = ap option_to_list (first-ruled leaf sights s out)
taken-ruled (Both l r) sights s out =
    let parts = or_parts (may_match l s.name s.vars) (may_match r s.name s.vars) out in
    rw (holds-ruled l sights s parts.0, holds-ruled r sights s parts.1, taken-ruled l sights s parts.0, taken-ruled r sights s parts.1) refl
taken-ruled (Either l r) sights s out =
    let parts = or_parts (may_match l s.name s.vars) (may_match r s.name s.vars) out in
    rw (taken-ruled l sights s parts.0, taken-ruled r sights s parts.1) refl

-- marks that agree do so after an event that each leaf rules out
firsts-ruled : (event_of : EventId → Option ℕ) (start : ℕ) (tree : Tree) (kept : Kept) (sights : List Sight) (s : Sight) → may_match tree s.name s.vars ≡ false → KeepsFirst event_of start tree kept sights → KeepsFirst event_of start tree kept (sights ++ s ∷ [])
firsts-ruled event_of start (One leaf) kept sights s out firsts = firsts ∙ ap (option_map Some) (sym (first-ruled leaf sights s out))
firsts-ruled event_of start (Both l r) kept sights s out firsts =
    let parts = or_parts (may_match l s.name s.vars) (may_match r s.name s.vars) out in
    (firsts-ruled event_of start l kept sights s parts.0 firsts.0, firsts-ruled event_of (start + size l) r kept sights s parts.1 firsts.1)
firsts-ruled event_of start (Either l r) kept sights s out firsts =
    let parts = or_parts (may_match l s.name s.vars) (may_match r s.name s.vars) out in
    (firsts-ruled event_of start l kept sights s parts.0 firsts.0, firsts-ruled event_of (start + size l) r kept sights s parts.1 firsts.1)

pub agrees-ruled : (event_of : EventId → Option ℕ) (marks : List Mark) (tree : Tree) (sights : List Sight) (s : Sight) → may_match tree s.name s.vars ≡ false → Agrees event_of marks tree sights → Agrees event_of marks tree (sights ++ s ∷ [])
agrees-ruled event_of marks tree sights s out agrees = record {
  kept = agrees.kept;
  laid = agrees.laid;
  firsts = firsts-ruled event_of 0 tree agrees.kept sights s out agrees.firsts;
}

-- an offer of it changes nothing of what is true, kept and taken
holds-more : (condition : Option Tree) (sights : List Sight) (e : ℕ) (event : Option Event) (env : Bindings) → may_hear condition event ≡ false → holds condition (sights ++ sight_of e event env) ≡ holds condition sights
holds-more None sights e event env out = refl
holds-more (Some tree) sights e None env out = ap (truth.holds tree) (append-nil sights)
holds-more (Some tree) sights e (Some event) env out = holds-ruled tree sights (record { event = e; name = event.name; vars = event.vars; env = env }) out

kept-more : (condition : Option Tree) (sights : List Sight) (e : ℕ) (event : Option Event) (env : Bindings) → may_hear condition event ≡ false → kept condition (sights ++ sight_of e event env) ≡ kept condition sights
kept-more None sights e event env out = refl
kept-more (Some tree) sights e None env out = ap (truth.kept tree) (append-nil sights)
kept-more (Some tree) sights e (Some event) env out = kept-ruled tree sights (record { event = e; name = event.name; vars = event.vars; env = env }) out

taken-more : (condition : Option Tree) (sights : List Sight) (e : ℕ) (event : Option Event) (env : Bindings) → may_hear condition event ≡ false → taken condition (sights ++ sight_of e event env) ≡ taken condition sights
taken-more None sights e event env out = refl
taken-more (Some tree) sights e None env out = ap (truth.taken tree) (append-nil sights)
taken-more (Some tree) sights e (Some event) env out = taken-ruled tree sights (record { event = e; name = event.name; vars = event.vars; env = env }) out

pub holds-unheard : (config : Configuration) (condition : Option Tree) (x other : Expression) (e : ℕ) (c : Chronicle) → may_hear condition (event_at e c) ≡ false → holds condition (seen config x (Offered other e ∷ c)) ≡ holds condition (seen config x c)
holds-unheard config condition x other e c out = by_case (same_expression other x) refl
  where
    by_case : (b : Bool) → same_expression other x ≡ b → holds condition (seen config x (Offered other e ∷ c)) ≡ holds condition (seen config x c)
    by_case true same = ap (holds condition) (seen_own config x other e c same) ∙ holds-more condition (seen config x c) e (event_at e c) (env_of config x c) out
    by_case false same = ap (holds condition) (seen_other config x other e c same)

pub kept-unheard : (config : Configuration) (condition : Option Tree) (x other : Expression) (e : ℕ) (c : Chronicle) → may_hear condition (event_at e c) ≡ false → kept condition (seen config x (Offered other e ∷ c)) ≡ kept condition (seen config x c)
kept-unheard config condition x other e c out = by_case (same_expression other x) refl
  where
    by_case : (b : Bool) → same_expression other x ≡ b → kept condition (seen config x (Offered other e ∷ c)) ≡ kept condition (seen config x c)
    by_case true same = ap (kept condition) (seen_own config x other e c same) ∙ kept-more condition (seen config x c) e (event_at e c) (env_of config x c) out
    by_case false same = ap (kept condition) (seen_other config x other e c same)

pub taken-unheard : (config : Configuration) (condition : Option Tree) (x other : Expression) (e : ℕ) (c : Chronicle) → may_hear condition (event_at e c) ≡ false → taken condition (seen config x (Offered other e ∷ c)) ≡ taken condition (seen config x c)
taken-unheard config condition x other e c out = by_case (same_expression other x) refl
  where
    by_case : (b : Bool) → same_expression other x ≡ b → taken condition (seen config x (Offered other e ∷ c)) ≡ taken condition (seen config x c)
    by_case true same = ap (taken condition) (seen_own config x other e c same) ∙ taken-more condition (seen config x c) e (event_at e c) (env_of config x c) out
    by_case false same = ap (taken condition) (seen_other config x other e c same)

-- so the offer leaves a note of it, and nothing else
pub unheard-offer : (config : Configuration) (next : Next) (e : ℕ) (c : Chronicle) → may_hear (condition_of next) (event_at e c) ≡ false → holds (condition_of next) (seen config (expression_of next) c) ≡ false
    → offer_to config (Some next) e c ≡ Offered (expression_of next) e ∷ []
unheard-offer config (Stops job i) e c out quiet =
    let still : holds job.stop_on (seen config (StopOn i) (Offered (StopOn i) e ∷ c)) ≡ false = holds-unheard config job.stop_on (StopOn i) (StopOn i) e c out ∙ quiet in
    rw still refl
unheard-offer config (Starts job) e c out quiet =
    let still : holds job.start_on (seen config (StartOn job.name) (Offered (StartOn job.name) e ∷ c)) ≡ false = holds-unheard config job.start_on (StartOn job.name) (StartOn job.name) e c out ∙ quiet in
    rw still refl
