-- A step that is about the job goes on alike in both chronicles.
use Rattle.up_isolation.proofs.Names.{◌≡◌, ℕ, ◌<◌, ◌==◌, ◌||◌, ◌⊎◌, inl, inr, Bool, true, false, List, [], ◌∷◌}
use Rattle.up_isolation.proofs.Names.{◌++◌, Option, None, Some, length, if◌then◌else◌, bytes_eq, refl, sym, ◌∙◌}
use Rattle.up_isolation.proofs.Names.{ap, ap₂, subst, arith, not, subst₂, append_assoc, eq-eqb, eqb-true, zero}
use Rattle.up_isolation.proofs.Names.{suc, AllByRecursion, JobDef, Sight, Who, Chronicle, Entry, Given, Handled}
use Rattle.up_isolation.proofs.Names.{Offered, Fired, Made, Aimed, Entered, StartOn, StopOn, Expression}
use Rattle.up_isolation.proofs.Names.{Configuration, job_named, due, env_of_job, instance_name, events_at}
use Rattle.up_isolation.proofs.Names.{events_env, stopped_by, names_in_order, Instance, instances_of, move}
use Rattle.up_isolation.proofs.Names.{move_first, stop_of, stop_by, stop_offer, start_of, who_called, start_who}
use Rattle.up_isolation.proofs.Names.{start_env, start_by, start_offer, is_newborn, is_open, offering, offer_first}
use Rattle.up_isolation.proofs.Names.{offer_next, is_start, entries_if, or_else, entry_at, event_at, goal}
use Rattle.up_isolation.proofs.Names.{event_of, releasing, unanswered, answering_hurried, answering_last, seen}
use Rattle.up_isolation.proofs.Names.{holds, taken, was_offered, Bytes, Bindings, work, settle, named-name}
use Rattle.up_isolation.proofs.Names.{bytes_refl, releasing-all, same-append, all-append, all-if, all-weaker}
use Rattle.up_isolation.proofs.Names.{content, content_of}
use Rattle.up_model.proofs.Settling.{settle_still, settle_enough}
use Rattle.up_model.proofs.WorkLaws.{falls}
use Rattle.up_isolation.proofs.Twins.{Twins, Match, At, twins_map}
use Rattle.up_isolation.proofs.Known.{IsKnown, known}
use Rattle.up_isolation.proofs.Likes.{only, Like, instances-same}
use Rattle.up_isolation.proofs.Pairs.{Pair, Carries}
use Rattle.up_isolation.proofs.Releases.{entry-append}
use Rattle.up_isolation.proofs.Offering.{pair-at, pair_stop_offer, like_start_offer}
use Rattle.up_isolation.proofs.Moving.{pair_move}
use Rattle.up_isolation.proofs.Foreign.{IsStrange, AreStrange, strange-foreign, like-strange}
use Rattle.up_isolation.proofs.Movers as movers
use Rattle.up_isolation.proofs.Movers.{Moves, moves-first, move-some, or_else-first, or_else-second}
use Rattle.up_isolation.proofs.Offers as offers
use Rattle.up_isolation.proofs.Offers.{Offers, offers-first, offers-shut, Spent, stop-some, start-some}
use Rattle.up_isolation.proofs.Locals.{NotGiven, IsMoving, moving-given, move-moving, moving-offering}
use Rattle.up_isolation.proofs.Locals.{moving-offered, moving-open, IsShut, shut-more, silent-more, stranges-given}
use Rattle.up_isolation.proofs.Locals.{strange-offering, strange-started, strange-open}

-- the event of this step, in both
pub record SameEvent (c d : Chronicle) (p q : ℕ) : Type 0 where
  pub event : event_at p c ≡ event_at q d
  pub content : content p c ≡ content q d
  pub older : p < length c
  pub older_there : q < length d

pub same-later : (c d : Chronicle) (p q : ℕ) (es fs : List Entry) → SameEvent c d p q
    → SameEvent (es ++ c) (fs ++ d) p q
same-later c d p q es fs same = record {
  event = ap event_of one.1 ∙ same.event ∙ sym (ap event_of other.1);
  content = ap content_of one.1 ∙ same.content ∙ sym (ap content_of other.1);
  older = one.0;
  older_there = other.0;
}
  where
    one : (p < length (es ++ c)) × (entry_at p (es ++ c) ≡ entry_at p c)
    one = entry-append p es c same.older

    other : (q < length (fs ++ d)) × (entry_at q (fs ++ d) ≡ entry_at q d)
    other = entry-append q fs d same.older_there

-- what is left to be offered
pub data Offering (job : Bytes) (c d : Chronicle) : Type 0 where
  None' : offering c ≡ None → offering d ≡ None → Offering job c d
  Open : (p q : ℕ) → offering c ≡ Some p → offering d ≡ Some q → SameEvent c d p q
      → was_offered (StartOn job) c ≡ false → was_offered (StartOn job) d ≡ false
      → Twins (λ x y. is_open x.place c ≡ is_open y.place d) (instances_of job c) (instances_of job d)
      → Offering job c d
  Shut : (p q : ℕ) → offering c ≡ Some p → offering d ≡ Some q → IsShut job c → IsShut job d
      → Offering job c d

-- entries of another job leave it so
strange-twins : (job : Bytes) (e : Entry) (c d : Chronicle) (xs ys : List Instance) → IsStrange job e c
    → AllByRecursion (IsKnown job c) xs
    → Twins (λ x y. is_open x.place c ≡ is_open y.place d) xs ys
    → Twins (λ x y. is_open x.place (e ∷ c) ≡ is_open y.place d) xs ys
strange-twins job e c d [] [] is known twins = tt
strange-twins job e c d (x ∷ xs) (y ∷ ys) is known twins =
    (strange-open job x e c known.0 is ∙ twins.0, strange-twins job e c d xs ys is known.1 twins.1)
strange-twins job e c d [] (y ∷ ys) is known twins = twins
strange-twins job e c d (x ∷ xs) [] is known twins = twins

offering-one : (job : Bytes) (config : Configuration) (e : Entry) (c d : Chronicle) → IsStrange job e c
    → NotGiven e → Offering job c d → Offering job (e ∷ c) d
offering-one job config e c d is plain (None' none void) = None' (strange-offering job e c is ∙ none) void
offering-one job config e c d is plain (Open p q some same event left right twins) =
    Open p q (strange-offering job e c is ∙ some) same (same-later c d p q (e ∷ []) [] event)
    (strange-started job e c is ∙ left) right
    (subst (λ xs. Twins (λ x y. is_open x.place (e ∷ c) ≡ is_open y.place d) xs (instances_of job d))
    (sym (instances-same job config e c (strange-foreign job config e c is)))
    (strange-twins job e c d (instances_of job c) (instances_of job d) is (known job c) twins))
offering-one job config e c d is plain (Shut p q some same shut closed) =
    Shut p q (strange-offering job e c is ∙ some) same (shut-more job (e ∷ []) c (plain, tt) shut) closed

pub offering-strange : (job : Bytes) (config : Configuration) (es : List Entry) (c d : Chronicle)
    → AreStrange job es c → AllByRecursion NotGiven es → Offering job c d → Offering job (es ++ c) d
offering-strange job config [] c d are plain state = state
offering-strange job config (e ∷ es) c d are plain state =
    offering-one job config e (es ++ c) d are.0 plain.0
    (offering-strange job config es c d are.1 plain.1 state)

-- and so do moves
pub moving-given-all : (es : List Entry) → AllByRecursion IsMoving es → AllByRecursion NotGiven es
moving-given-all es all = all-weaker IsMoving NotGiven moving-given es all

pub offering-moved : (job : Bytes) (config : Configuration) (es fs : List Entry) (c d : Chronicle)
    (x y : Instance) → AllByRecursion IsMoving es → AllByRecursion IsMoving fs
    → Carries job config c d (es ++ c) (fs ++ d) x y → Offering job c d → Offering job (es ++ c) (fs ++ d)
offering-moved job config es fs c d x y left right carries (None' none void) =
    None' (same-append offering IsMoving moving-offering es c left ∙ none)
    (same-append offering IsMoving moving-offering fs d right ∙ void)
offering-moved job config es fs c d x y left right carries (Open p q some same event one other twins) =
    Open p q (same-append offering IsMoving moving-offering es c left ∙ some)
    (same-append offering IsMoving moving-offering fs d right ∙ same) (same-later c d p q es fs event)
    (same-append (was_offered (StartOn job)) IsMoving (moving-offered (StartOn job)) es c left ∙ one)
    (same-append (was_offered (StartOn job)) IsMoving (moving-offered (StartOn job)) fs d right ∙ other)
    (twins_map (λ u v. is_open u.place c ≡ is_open v.place d) (λ u v. is_open u.place (es ++ c)
    ≡ is_open v.place (fs ++ d))
    (λ u v h. same-append (is_open u.place) IsMoving (moving-open u.place) es c left ∙ h
    ∙ sym (same-append (is_open v.place) IsMoving (moving-open v.place) fs d right))
    (instances_of job (es ++ c)) (instances_of job (fs ++ d))
    (carries.shrinks (λ u. is_open u.place c) (λ v. is_open v.place d) twins))
offering-moved job config es fs c d x y left right carries (Shut p q some same shut closed) =
    Shut p q (same-append offering IsMoving moving-offering es c left ∙ some)
    (same-append offering IsMoving moving-offering fs d right ∙ same)
    (shut-more job es c (moving-given-all es left) shut)
    (shut-more job fs d (moving-given-all fs right) closed)

-- an offer to a `stop on`: all but the offer itself
abbrev pub IsShy : Entry → Type 0
IsShy (Given given) = ⊥
IsShy (Handled event) = ⊥
IsShy (Offered expression event) = ⊥
IsShy (Made job name) = ⊥
IsShy (Entered i to) = ⊥
IsShy e = Unit {0}

shy-offering : (e : Entry) (c : Chronicle) → IsShy e → offering (e ∷ c) ≡ offering c
shy-offering (Given given) c is = absurd is
shy-offering (Handled event) c is = absurd is
shy-offering e c is = refl

shy-offered : (expression : Expression) (e : Entry) (c : Chronicle) → IsShy e
    → was_offered expression (e ∷ c) ≡ was_offered expression c
shy-offered expression (Given given) c is = absurd is
shy-offered expression (Offered other event) c is = absurd is
shy-offered expression e c is = refl

shy-newborn : (i : ℕ) (e : Entry) (c : Chronicle) → IsShy e → is_newborn i (e ∷ c) ≡ is_newborn i c
shy-newborn i (Given given) c is = absurd is
shy-newborn i (Made job name) c is = absurd is
shy-newborn i e c is = refl

shy-open : (i : ℕ) (e : Entry) (c : Chronicle) → IsShy e → is_open i (e ∷ c) ≡ is_open i c
shy-open i e c is = ap₂ (λ a b. not (a || b)) (shy-newborn i e c is) (shy-offered (StopOn i) e c is)

shy-given : (e : Entry) → IsShy e → NotGiven e
shy-given (Given given) is = is
shy-given e is = tt

-- what an offer to a `stop on` does beside
abbrev stop_rest : Configuration → JobDef → ℕ → ℕ → Chronicle → List Entry
stop_rest config def i p c =
    entries_if (holds def.stop_on (seen config (StopOn i) (Offered (StopOn i) p ∷ c)))
    (stop_by i (taken def.stop_on (seen config (StopOn i) (Offered (StopOn i) p ∷ c)))
    (Fired (StopOn i) (taken def.stop_on (seen config (StopOn i) (Offered (StopOn i) p ∷ c)))
    ∷ Offered (StopOn i) p ∷ c)
    ++ Fired (StopOn i) (taken def.stop_on (seen config (StopOn i) (Offered (StopOn i) p ∷ c))) ∷ [])

stop_rest-shy : (config : Configuration) (def : JobDef) (i p : ℕ) (c : Chronicle)
    → AllByRecursion IsShy (stop_rest config def i p c)
stop_rest-shy config def i p c =
    all-if IsShy (holds def.stop_on ss) (stop_by i ps fired ++ Fired (StopOn i) ps ∷ [])
    (all-append IsShy (stop_by i ps fired) (Fired (StopOn i) ps ∷ [])
    (all-if IsShy (is_start (goal i fired)) (stop_of i (stopped_by (events_at ps fired)) ps fired)
    (tt, releasing-all IsShy (λ request answer. tt) i false tt fired)) (tt, tt))
  where
    ss : List Sight
    ss = seen config (StopOn i) (Offered (StopOn i) p ∷ c)

    ps : List ℕ
    ps = taken def.stop_on ss

    fired : Chronicle
    fired = Fired (StopOn i) ps ∷ Offered (StopOn i) p ∷ c

-- after it only that `stop on` is shut
stop-open : (config : Configuration) (def : JobDef) (i p k : ℕ) (c : Chronicle)
    → is_open k (stop_offer config def i p c ++ c)
    ≡ not (is_newborn k c || (if i == k then true else was_offered (StopOn k) c))
stop-open config def i p k c =
    ap (is_open k) (append_assoc (stop_rest config def i p c) (Offered (StopOn i) p ∷ []) c)
    ∙ same-append (is_open k) IsShy (shy-open k) (stop_rest config def i p c) (Offered (StopOn i) p ∷ c)
    (stop_rest-shy config def i p c)

or-true : (b : Bool) → (b || true) ≡ true
or-true true = refl
or-true false = refl

stop-match : (config other : Configuration) (def : JobDef) (i j p q : ℕ) (c d : Chronicle) (u v : Instance)
    → (u.place == i) ≡ (v.place == j) → is_open u.place c ≡ is_open v.place d
    → is_open u.place (stop_offer config def i p c ++ c) ≡ is_open v.place (stop_offer other def j q d ++ d)
stop-match config other def i j p q c d u v match same = stop-open config def i p u.place c
    ∙ by_case (i == u.place) (j == v.place) (flip i u.place j v.place match)
    ∙ sym (stop-open other def j q v.place d)
  where
    turn : (a b : ℕ) → (a == b) ≡ (b == a)
    turn a b = by_test (a == b) (b == a) refl refl
      where
        by_test : (s t : Bool) → (a == b) ≡ s → (b == a) ≡ t → s ≡ t
        by_test true true one two = refl
        by_test false false one two = refl
        by_test true false one two = let bad = eq-eqb b a (sym (eqb-true a b one)) in absurd (cc)
        by_test false true one two = let bad = eq-eqb a b (sym (eqb-true b a two)) in absurd (cc)

    flip : (a b k l : ℕ) → (b == a) ≡ (l == k) → (a == b) ≡ (k == l)
    flip a b k l h = turn a b ∙ h ∙ turn l k

    by_case : (b a : Bool) → b ≡ a
        → not (is_newborn u.place c || (if b then true else was_offered (StopOn u.place) c))
        ≡ not (is_newborn v.place d || (if a then true else was_offered (StopOn v.place) d))
    by_case true true e =
        ap not (or-true (is_newborn u.place c)) ∙ sym (ap not (or-true (is_newborn v.place d)))
    by_case false false e = same
    by_case true false e = absurd (cc)
    by_case false true e = absurd (cc)

stop-offering : (config : Configuration) (def : JobDef) (i p : ℕ) (c : Chronicle)
    → offering (stop_offer config def i p c ++ c) ≡ offering c
stop-offering config def i p c =
    ap offering (append_assoc (stop_rest config def i p c) (Offered (StopOn i) p ∷ []) c)
    ∙ same-append offering IsShy shy-offering (stop_rest config def i p c) (Offered (StopOn i) p ∷ c)
    (stop_rest-shy config def i p c)

stop-started : (job : Bytes) (config : Configuration) (def : JobDef) (i p : ℕ) (c : Chronicle)
    → was_offered (StartOn job) (stop_offer config def i p c ++ c) ≡ was_offered (StartOn job) c
stop-started job config def i p c =
    ap (was_offered (StartOn job)) (append_assoc (stop_rest config def i p c) (Offered (StopOn i) p ∷ []) c)
    ∙ same-append (was_offered (StartOn job)) IsShy (shy-offered (StartOn job)) (stop_rest config def i p c)
    (Offered (StopOn i) p ∷ c) (stop_rest-shy config def i p c)

stop-given : (config : Configuration) (def : JobDef) (i p : ℕ) (c : Chronicle)
    → AllByRecursion NotGiven (stop_offer config def i p c)
stop-given config def i p c =
    all-append NotGiven (stop_rest config def i p c) (Offered (StopOn i) p ∷ [])
    (all-weaker IsShy NotGiven shy-given (stop_rest config def i p c) (stop_rest-shy config def i p c))
    (tt, tt)

twins-two : (f g h k : Instance → Bool) (i j : ℕ) (xs ys : List Instance)
    → ((u v : Instance) → (u.place == i) ≡ (v.place == j) → f u ≡ g v → h u ≡ k v) → Twins (Match i j) xs ys
    → Twins (λ u v. f u ≡ g v) xs ys → Twins (λ u v. h u ≡ k v) xs ys
twins-two f g h k i j [] [] go match twins = tt
twins-two f g h k i j (x ∷ xs) (y ∷ ys) go match twins =
    (go x y match.0 twins.0, twins-two f g h k i j xs ys go match.1 twins.1)
twins-two f g h k i j [] (y ∷ ys) go match twins = twins
twins-two f g h k i j (x ∷ xs) [] go match twins = twins

offering-stopped : (job : Bytes) (config : Configuration) (def : JobDef) (p q : ℕ) (c d : Chronicle)
    (x y : Instance) → Pair job config c d x y
    → Carries job config c d (stop_offer config def x.place p c ++ c)
    (stop_offer (only job config) def y.place q d ++ d) x y
    → offering c ≡ Some p → offering d ≡ Some q → SameEvent c d p q → was_offered (StartOn job) c ≡ false
    → was_offered (StartOn job) d ≡ false
    → Twins (λ u v. is_open u.place c ≡ is_open v.place d) (instances_of job c) (instances_of job d)
    → Offering job (stop_offer config def x.place p c ++ c) (stop_offer (only job config) def y.place q d
    ++ d)
offering-stopped job config def p q c d x y pair carries some same event one other twins =
    Open p q (stop-offering config def x.place p c ∙ some) (stop-offering (only job config) def y.place q d
    ∙ same)
    (same-later c d p q (stop_offer config def x.place p c) (stop_offer (only job config) def y.place q d)
    event)
    (stop-started job config def x.place p c ∙ one) (stop-started job (only job config) def y.place q d
    ∙ other)
    (carries.shrinks (λ u. is_open u.place (stop_offer config def x.place p c ++ c))
    (λ v. is_open v.place (stop_offer (only job config) def y.place q d ++ d))
    (twins-two (λ u. is_open u.place c) (λ v. is_open v.place d)
    (λ u. is_open u.place (stop_offer config def x.place p c ++ c))
    (λ v. is_open v.place (stop_offer (only job config) def y.place q d ++ d)) x.place y.place
    (instances_of job c) (instances_of job d)
    (λ u v match h. stop-match config (only job config) def x.place y.place p q c d u v match h) pair.match
    twins))

-- an offer to a `start on`
start_who-given : (job : JobDef) (o : Option ℕ) (who : Who) (environment : Bindings) (ps : List ℕ) (c : Chronicle)
    → AllByRecursion NotGiven (start_of job who environment ps o c)
start_who-given job None who environment ps c =
    all-if NotGiven _ (Aimed (length c) _ environment ps ∷ Made job who.instance ∷ []) (tt, (tt, tt))
start_who-given job (Some i) who environment ps c =
    all-if NotGiven (not (is_start (goal i c))) (Aimed i _ environment ps ∷ releasing i false c)
    (tt, releasing-all NotGiven (λ request answer. tt) i false tt c)

start_by-given : (job : JobDef) (o : Option Who) (environment : Bindings) (ps : List ℕ) (c : Chronicle)
    → AllByRecursion NotGiven (start_who job environment ps o c)
start_by-given job None environment ps c = tt
start_by-given job (Some who) environment ps c = start_who-given job _ who _ ps c

abbrev start_rest : Configuration → JobDef → ℕ → Chronicle → List Entry
start_rest config def p c =
    let offered = Offered (StartOn def.name) p ∷ c in
    let ps = taken def.start_on (seen config (StartOn def.name) offered) in
    entries_if (holds def.start_on (seen config (StartOn def.name) offered))
    (start_by config def ps (Fired (StartOn def.name) ps ∷ offered) ++ Fired (StartOn def.name) ps ∷ [])

start_rest-given : (config : Configuration) (def : JobDef) (p : ℕ) (c : Chronicle)
    → AllByRecursion NotGiven (start_rest config def p c)
start_rest-given config def p c =
    all-if NotGiven (holds def.start_on ss) (start_by config def ps fired ++ Fired (StartOn def.name) ps ∷ [])
    (all-append NotGiven (start_by config def ps fired) (Fired (StartOn def.name) ps ∷ [])
    (start_by-given def (who_called def.name name) environment ps fired) (tt, tt))
  where
    ss : List Sight
    ss = seen config (StartOn def.name) (Offered (StartOn def.name) p ∷ c)

    ps : List ℕ
    ps = taken def.start_on ss

    fired : Chronicle
    fired = Fired (StartOn def.name) ps ∷ Offered (StartOn def.name) p ∷ c

    name : Option Bytes
    name = instance_name def (events_env (env_of_job config def.name) (events_at ps fired))

    environment : Bindings
    environment = start_env config (who_called def.name name) (events_at ps fired) fired

pub start-given : (config : Configuration) (def : JobDef) (p : ℕ) (c : Chronicle)
    → AllByRecursion NotGiven (start_offer config def p c)
start-given config def p c = all-append NotGiven (start_rest config def p c)
    (Offered (StartOn def.name) p ∷ []) (start_rest-given config def p c) (tt, tt)

shut-after : (job : Bytes) (config : Configuration) (def : JobDef) (p : ℕ) (c : Chronicle) → def.name ≡ job
    → AllByRecursion (λ x. is_open x.place c ≡ false) (instances_of job c)
    → IsShut job (start_offer config def p c ++ c)
shut-after job config def p c name shut =
    subst (λ (t : Chronicle). IsShut job t)
    (sym (append_assoc (start_rest config def p c) (Offered (StartOn def.name) p ∷ []) c))
    (shut-more job (start_rest config def p c) (Offered (StartOn def.name) p ∷ c)
    (start_rest-given config def p c)
    (record {
      started = ap (λ its. if bytes_eq its job then true else was_offered (StartOn job) c) name
          ∙ rw (bytes_refl job) refl;
      shut = shut;
    }))

-- the event that an offer is about stays
offered-given : (e : Entry) (c : Chronicle) → NotGiven e → ((event : ℕ) → e ≡ Handled event → ⊥)
    → offering (e ∷ c) ≡ offering c
offered-given (Given given) c is other = absurd is
offered-given (Handled event) c is other = absurd (other event refl)
offered-given e c is other = refl

abbrev IsTame : Entry → Type 0
IsTame (Given given) = ⊥
IsTame (Handled event) = ⊥
IsTame e = Unit {0}

tame-offering : (e : Entry) (c : Chronicle) → IsTame e → offering (e ∷ c) ≡ offering c
tame-offering (Given given) c is = absurd is
tame-offering (Handled event) c is = absurd is
tame-offering e c is = refl

start_who-tame : (job : JobDef) (o : Option ℕ) (who : Who) (environment : Bindings) (ps : List ℕ) (c : Chronicle)
    → AllByRecursion IsTame (start_of job who environment ps o c)
start_who-tame job None who environment ps c =
    all-if IsTame _ (Aimed (length c) _ environment ps ∷ Made job who.instance ∷ []) (tt, (tt, tt))
start_who-tame job (Some i) who environment ps c =
    all-if IsTame (not (is_start (goal i c))) (Aimed i _ environment ps ∷ releasing i false c)
    (tt, releasing-all IsTame (λ request answer. tt) i false tt c)

start_by-tame : (job : JobDef) (o : Option Who) (environment : Bindings) (ps : List ℕ) (c : Chronicle)
    → AllByRecursion IsTame (start_who job environment ps o c)
start_by-tame job None environment ps c = tt
start_by-tame job (Some who) environment ps c = start_who-tame job _ who _ ps c

start-tame : (config : Configuration) (def : JobDef) (p : ℕ) (c : Chronicle)
    → AllByRecursion IsTame (start_offer config def p c)
start-tame config def p c =
    all-append IsTame (start_rest config def p c) (Offered (StartOn def.name) p ∷ [])
    (all-if IsTame (holds def.start_on ss) (start_by config def ps fired ++ Fired (StartOn def.name) ps ∷ [])
    (all-append IsTame (start_by config def ps fired) (Fired (StartOn def.name) ps ∷ [])
    (start_by-tame def (who_called def.name name) environment ps fired) (tt, tt)))
    (tt, tt)
  where
    ss : List Sight
    ss = seen config (StartOn def.name) (Offered (StartOn def.name) p ∷ c)

    ps : List ℕ
    ps = taken def.start_on ss

    fired : Chronicle
    fired = Fired (StartOn def.name) ps ∷ Offered (StartOn def.name) p ∷ c

    name : Option Bytes
    name = instance_name def (events_env (env_of_job config def.name) (events_at ps fired))

    environment : Bindings
    environment = start_env config (who_called def.name name) (events_at ps fired) fired

offering-started : (job : Bytes) (config : Configuration) (def : JobDef) (p q : ℕ) (c d : Chronicle)
    → def.name ≡ job → offering c ≡ Some p → offering d ≡ Some q
    → AllByRecursion (λ x. is_open x.place c ≡ false) (instances_of job c)
    → AllByRecursion (λ y. is_open y.place d ≡ false) (instances_of job d)
    → Offering job (start_offer config def p c ++ c) (start_offer (only job config) def q d ++ d)
offering-started job config def p q c d name some same shut closed =
    Shut p q (same-append offering IsTame tame-offering (start_offer config def p c) c
    (start-tame config def p c) ∙ some)
    (same-append offering IsTame tame-offering (start_offer (only job config) def q d) d
    (start-tame (only job config) def q d) ∙ same)
    (shut-after job config def p c name shut) (shut-after job (only job config) def q d name closed)

-- a step that is about the job: what is left to be offered is alike, and nobody is to be answered at its end
pub record Plain (job : Bytes) (config : Configuration) (c d : Chronicle) : Type 0 where
  pub like : Like job config c d
  pub offers : Offering job c d
  pub silent : unanswered c ≡ None
  pub silent_there : unanswered d ≡ None

-- what becomes of it by what is due
pub data Did (job : Bytes) (config : Configuration) (c d : Chronicle) : Type 0 where
  Rest : due config c ≡ [] → due (only job config) d ≡ [] → Did job config c d
  Far : (due config c ≡ [] → ⊥) → Plain job config (due config c ++ c) d → Did job config c d
  Near : (due config c ≡ [] → ⊥) → (due (only job config) d ≡ [] → ⊥)
      → Plain job config (due config c ++ c) (due (only job config) d ++ d) → Did job config c d

last-none : (c : Chronicle) → unanswered c ≡ None → answering_last c ≡ []
last-none c none = ap (λ o. answering_hurried o c) none

plain-strange : (job : Bytes) (config : Configuration) (es : List Entry) (c d : Chronicle)
    → AreStrange job es c → Plain job config c d → Plain job config (es ++ c) d
plain-strange job config es c d are plain = record {
  like = like-strange job config es c d are plain.like;
  offers = offering-strange job config es c d are (stranges-given job es c are) plain.offers;
  silent = silent-more es c (stranges-given job es c are) plain.silent;
  silent_there = plain.silent_there;
}

plain-moved : (job : Bytes) (config : Configuration) (def : JobDef) (c d : Chronicle) (x y : Instance)
    → At x y (instances_of job c) (instances_of job d) → Plain job config c d
    → Plain job config (move def x c ++ c) (move def y d ++ d)
plain-moved job config def c d x y at plain = record {
  like = carries.pair.like;
  offers = offering-moved job config (move def x c) (move def y d) c d x y (move-moving def x c)
      (move-moving def y d) carries plain.offers;
  silent = silent-more (move def x c) c (moving-given-all (move def x c) (move-moving def x c)) plain.silent;
  silent_there =
      silent-more (move def y d) d (moving-given-all (move def y d) (move-moving def y d)) plain.silent_there;
}
  where
    carries : Carries job config c d (move def x c ++ c) (move def y d ++ d) x y
    carries = pair_move job config def c d x y (pair-at job config c d x y at plain.like)

start-like : (job : Bytes) (config : Configuration) (def : JobDef) (p q : ℕ) (c d : Chronicle)
    → def.name ≡ job → job_named job config.jobs ≡ Some def → SameEvent c d p q → Like job config c d
    → Like job config (start_offer config def p c ++ c) (start_offer (only job config) def q d ++ d)
start-like job config def p q c d name in_force event =
    subst (λ its. job_named its config.jobs ≡ Some def → Like its config c d
    → Like its config (start_offer config def p c ++ c) (start_offer (only its config) def q d ++ d)) name
    (λ found like. like_start_offer config def c d p q found event.event event.content like) in_force

pub plain-due : (job : Bytes) (config : Configuration) (c d : Chronicle)
    → Plain job config c d → Did job config c d
unfolding due
plain-due job config c d plain = by_moves (moves-first job config config.jobs c d plain.like)
  where
    rest : List Entry
    rest = or_else (offer_next config (offering c) c) (answering_last c)

    rest_there : List Entry
    rest_there = or_else (offer_next (only job config) (offering d) d) (answering_last d)

    first : (es : List Entry) → move_first (names_in_order config c) c ≡ es → (es ≡ [] → ⊥) → due config c ≡ es
    first es is some = or_else-first (move_first (names_in_order config c) c) rest (λ none. some (sym is ∙ none)) ∙ is

    second : move_first (names_in_order config c) c ≡ [] → due config c ≡ rest
    second none = or_else-second (move_first (names_in_order config c) c) rest none

    first_there : (es : List Entry) → move_first (names_in_order (only job config) d) d ≡ es → (es ≡ [] → ⊥)
        → due (only job config) d ≡ es
    first_there es is some = or_else-first (move_first (names_in_order (only job config) d) d) rest_there
        (λ none. some (sym is ∙ none)) ∙ is

    second_there : move_first (names_in_order (only job config) d) d ≡ [] → due (only job config) d ≡ rest_there
    second_there none = or_else-second (move_first (names_in_order (only job config) d) d) rest_there none

    far : (es : List Entry) → due config c ≡ es → (es ≡ [] → ⊥) → AreStrange job es c → Did job config c d
    far es is some are = Far (λ none. some (sym is ∙ none))
        (subst (λ (t : List Entry). Plain job config (t ++ c) d) (sym is)
        (plain-strange job config es c d are plain))

    near : (es fs : List Entry) → due config c ≡ es → due (only job config) d ≡ fs → (es ≡ [] → ⊥)
        → (fs ≡ [] → ⊥) → Plain job config (es ++ c) (fs ++ d) → Did job config c d
    near es fs is are some other next =
        Near (λ none. some (sym is ∙ none)) (λ none. other (sym are ∙ none))
        (subst₂ (λ (s t : List Entry). Plain job config (s ++ c) (t ++ d)) (sym is) (sym are) next)

    idle : due config c ≡ rest → due (only job config) d ≡ rest_there → Offering job c d → Did job config c d
    idle one other (None' none void) =
        Rest (one ∙ ap (λ o. or_else (offer_next config o c) (answering_last c)) none
        ∙ last-none c plain.silent)
        (other ∙ ap (λ o. or_else (offer_next (only job config) o d) (answering_last d)) void
        ∙ last-none d plain.silent_there)
    idle one other (Open p q some same event left right twins) =
        by_offers (offers-first job config p q config.jobs c d plain.like twins left right)
      where
        es : List Entry
        es = offer_first config (names_in_order config c) p c

        fs : List Entry
        fs = offer_first (only job config) (names_in_order (only job config) d) q d

        here : due config c ≡ or_else es (answering_last c)
        here = one ∙ ap (λ o. or_else (offer_next config o c) (answering_last c)) some

        there : due (only job config) d ≡ or_else fs (answering_last d)
        there = other ∙ ap (λ o. or_else (offer_next (only job config) o d) (answering_last d)) same

        by_offers : Offers job config p q c d es fs → Did job config c d
        by_offers (offers.Idle none void) =
            Rest (here ∙ or_else-second es (answering_last c) none ∙ last-none c plain.silent)
            (there ∙ or_else-second fs (answering_last d) void ∙ last-none d plain.silent_there)
        by_offers (offers.Away something are) =
            far es (here ∙ or_else-first es (answering_last c) something) something are
        by_offers (offers.Stop x y at is are) =
            let def = x.file in
            let carries = pair_stop_offer job config c d x y p q event.event event.content
            (pair-at job config c d x y at plain.like) in
            near (stop_offer config def x.place p c) (stop_offer (only job config) def y.place q d)
            (here ∙ or_else-first es (answering_last c)
            (λ none. stop-some config def x.place p c (sym is ∙ none)) ∙ is)
            (there ∙ or_else-first fs (answering_last d)
            (λ none. stop-some (only job config) def y.place q d (sym are ∙ none)) ∙ are)
            (stop-some config def x.place p c) (stop-some (only job config) def y.place q d)
            (record {
              like = carries.pair.like;
              offers = offering-stopped job config def p q c d x y (pair-at job config c d x y at plain.like)
                  carries some same event left right twins;
              silent = silent-more (stop_offer config def x.place p c) c (stop-given config def x.place p c)
                  plain.silent;
              silent_there = silent-more (stop_offer (only job config) def y.place q d) d
                  (stop-given (only job config) def y.place q d) plain.silent_there;
            })
        by_offers (offers.Start def found shut closed is are) =
            let name = named-name job config.jobs def found in
            near (start_offer config def p c) (start_offer (only job config) def q d)
            (here ∙ or_else-first es (answering_last c) (λ none. start-some config def p c (sym is ∙ none))
            ∙ is)
            (there ∙ or_else-first fs (answering_last d)
            (λ none. start-some (only job config) def q d (sym are ∙ none)) ∙ are)
            (start-some config def p c) (start-some (only job config) def q d)
            (record {
              like = start-like job config def p q c d name found event plain.like;
              offers = offering-started job config def p q c d name some same shut closed;
              silent = silent-more (start_offer config def p c) c (start-given config def p c) plain.silent;
              silent_there = silent-more (start_offer (only job config) def q d) d
                  (start-given (only job config) def q d) plain.silent_there;
            })
    idle one other (Shut p q some same shut closed) =
        by_spent (offers-shut job config p q config.jobs c d plain.like.fair shut closed)
      where
        es : List Entry
        es = offer_first config (names_in_order config c) p c

        fs : List Entry
        fs = offer_first (only job config) (names_in_order (only job config) d) q d

        by_spent : Spent job c es fs → Did job config c d
        by_spent (offers.Nothing none void) =
            Rest (one ∙ ap (λ o. or_else (offer_next config o c) (answering_last c)) some
            ∙ or_else-second es (answering_last c) none ∙ last-none c plain.silent)
            (other ∙ ap (λ o. or_else (offer_next (only job config) o d) (answering_last d)) same
            ∙ or_else-second fs (answering_last d) void ∙ last-none d plain.silent_there)
        by_spent (offers.Something something are) =
            far es (one ∙ ap (λ o. or_else (offer_next config o c) (answering_last c)) some
            ∙ or_else-first es (answering_last c) something) something are

    by_moves : Moves job c d (move_first (names_in_order config c) c) (move_first (names_in_order (only job config) d) d)
        → Did job config c d
    by_moves (movers.Idle none void) = idle (second none) (second_there void) plain.offers
    by_moves (movers.Away some are) =
        far (move_first (names_in_order config c) c) (first (move_first (names_in_order config c) c) refl some) some are
    by_moves (movers.Two def x y at left right) =
        near (move def x c) (move def y d) (first (move def x c) left (move-some def x c))
        (first_there (move def y d) right (move-some def y d)) (move-some def x c) (move-some def y d)
        (plain-moved job config def c d x y at plain)

-- so both come to rest alike
pub rested : (job : Bytes) (config : Configuration) (c d : Chronicle)
    → Plain job config c d → due config c ≡ []
    → (due (only job config) d ≡ [])
rested job config c d plain none = by_did (plain-due job config c d plain)
  where
    by_did : Did job config c d → due (only job config) d ≡ []
    by_did (Rest one other) = other
    by_did (Far some next) = absurd (some none)
    by_did (Near some other next) = absurd (some none)

pub settle-near : (config : Configuration) (d : Chronicle) → (due config d ≡ [] → ⊥)
    → settle (work config (due config d ++ d)) config (due config d ++ d) ≡ settle (work config d) config d
unfolding settle
settle-near config d some = by_sum (falls config d)
  where
    by_work : (n : ℕ) → work config d ≡ n → work config (due config d ++ d) < n
        → settle (work config (due config d ++ d)) config (due config d ++ d) ≡ settle n config d
    by_work zero is less = absurd (omega arith)
    by_work (suc n) is less = settle_enough (work config (due config d ++ d)) n config (due config d ++ d)
        (omega arith) (omega arith)

    by_sum : (due config d ≡ []) ⊎ (work config (due config d ++ d) < work config d)
        → settle (work config (due config d ++ d)) config (due config d ++ d)
        ≡ settle (work config d) config d
    by_sum (inl none) = absurd (some none)
    by_sum (inr less) = by_work (work config d) refl less

-- where the chronicle comes to rest, the job is alike in that which comes to rest of its own
pub plain-settle : (n : ℕ) (job : Bytes) (config : Configuration) (c d : Chronicle)
    → Plain job config c d → due config (settle n config c) ≡ []
    → Like job config (settle n config c) (settle (work (only job config) d) (only job config) d)
unfolding settle
plain-settle zero job config c d plain none =
    subst (λ (t : Chronicle). Like job config c t)
    (sym (settle_still (work (only job config) d) (only job config) d
    (rested job config c d plain none))) plain.like
plain-settle (suc n) job config c d plain none =
    by_did (plain-due job config c d plain) (λ e next. plain-settle n job config (due config c ++ c) e
    next none)
  where
    by_did : Did job config c d
        → ((e : Chronicle) → Plain job config (due config c ++ c) e
        → Like job config (settle n config (due config c ++ c))
        (settle (work (only job config) e) (only job config) e))
        → Like job config (settle n config (due config c ++ c))
        (settle (work (only job config) d) (only job config) d)
    by_did (Rest one other) next =
        let same : settle n config (due config c ++ c) ≡ c =
        ap (λ (es : List Entry). settle n config (es ++ c)) one ∙ settle_still n config c one in
        subst₂ (λ (s t : Chronicle). Like job config s t) (sym same)
        (sym (settle_still (work (only job config) d) (only job config) d other)) plain.like
    by_did (Far some plain) next = next d plain
    by_did (Near some other plain) next = subst
        (λ (t : Chronicle). Like job config (settle n config (due config c ++ c)) t)
        (settle-near (only job config) d other) (next (due (only job config) d ++ d) plain)
