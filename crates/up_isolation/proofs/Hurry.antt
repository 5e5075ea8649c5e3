-- A step of a request that names the job and doesn't wait: its answer comes last, and says the same.
use Rattle.up_isolation.proofs.Names.{◌≡◌, ℕ, ◌<◌, ◌==◌, inl, Bool, true, false, List, [], ◌∷◌, ◌++◌, Option, None}
use Rattle.up_isolation.proofs.Names.{Some, length, if◌then◌else◌, refl, sym, ◌∙◌, ap, subst, arith, ne_eqb, ◌&&◌}
use Rattle.up_isolation.proofs.Names.{subst₂, nat_lt, eq-eqb, zero, suc, AllByRecursion, JobDef, Process, Main}
use Rattle.up_isolation.proofs.Names.{JobEvent, Answer, State, Who, Chronicle, Entry, Given, Queued, Offered}
use Rattle.up_isolation.proofs.Names.{Finished, Aimed, Restarted, Released, Entered, Ordered, Signalled, Replied}
use Rattle.up_isolation.proofs.Names.{StopOn, Configuration, due, names_in_order, Instance, instances_of, entering}
use Rattle.up_isolation.proofs.Names.{move, move_first, move_of, may_leave, move_in, has_process, who_of, emitting}
use Rattle.up_isolation.proofs.Names.{ordering, enter, next_of, offering, offer_next, entries_if, or_else}
use Rattle.up_isolation.proofs.Names.{entry_at, holders, state_of, lives, request_at, releasing, unanswered}
use Rattle.up_isolation.proofs.Names.{answering_hurried, answering_last, asked, request_in, unless_answered}
use Rattle.up_isolation.proofs.Names.{status_of, was_answered, request_instance, answering_one, answering}
use Rattle.up_isolation.proofs.Names.{RequestValue, Bytes, work, settle, called, same-append, all-append, all-if}
use Rattle.up_isolation.proofs.Names.{all-weaker, was_asked}
use Rattle.std.proofs.Common.{ltb-true}
use Rattle.up_model.specs.declared.life.EntryActions as table
use Rattle.up_model.specs.Replies.{status_if}
use Rattle.up_isolation.proofs.Twins.{Twins, Match, At, at-twins}
use Rattle.up_isolation.proofs.Known.{IsKnown, known}
use Rattle.up_isolation.proofs.Likes.{only, Like, instances-same, Spares, spares, PassesBy, twin-spared}
use Rattle.up_isolation.proofs.Pairs.{Guest, Carries, known-one}
use Rattle.up_isolation.proofs.Releases.{entry-append, status-same}
use Rattle.up_isolation.proofs.Offering.{pair-at}
use Rattle.up_isolation.proofs.Moving.{pair_move}
use Rattle.up_isolation.proofs.Foreign.{IsStrange, AreStrange, strange-foreign, like-strange}
use Rattle.up_isolation.proofs.Movers as movers
use Rattle.up_isolation.proofs.Movers.{Moves, moves-first, move-some, or_else-first, or_else-second}
use Rattle.up_isolation.proofs.Locals.{IsMoving, move-moving, moving-offering}
use Rattle.up_isolation.proofs.Others.{like_replied}
use Rattle.up_isolation.proofs.Acting.{Plain, None', plain-settle, settle-near}

-- places below one
abbrev pub below : ℕ → List ℕ → Bool
below r [] = true
below r (p ∷ ps) = nat_lt p r && below r ps

-- a request of the job that doesn't wait, in both, and the instance that it acted on
pub record Waits (job : Bytes) (config : Configuration) (c d : Chronicle) (r q : ℕ) (x y : Instance) : Type 0
  where
    pub like : Like job config c d
    pub offers : offering c ≡ None
    pub offers_there : offering d ≡ None
    pub asking : asked c ≡ Some r
    pub asking_there : asked d ≡ Some q
    pub silent : was_answered r c ≡ false
    pub silent_there : was_answered q d ≡ false
    pub request : entry_at r c ≡ entry_at q d
    pub older : r < length c
    pub older_there : q < length d
    pub own : was_asked job (request_at r c) ≡ true
    pub acted : request_instance c ≡ Some x.place
    pub acted_there : request_instance d ≡ Some y.place
    pub guest : Guest job config c d x y
    pub held : Twins (λ u v. below r (holders u.place c) ≡ true) (instances_of job c) (instances_of job d)
    pub held_there : Twins (λ u v. true ≡ below q (holders v.place d)) (instances_of job c) (instances_of job d)

-- entries of moves leave who was asked, and on what it acted
moving-asked : (e : Entry) (c : Chronicle) → IsMoving e → asked (e ∷ c) ≡ asked c
moving-asked (Given given) c is = absurd is
moving-asked e c is = refl

moving-acted : (e : Entry) (c : Chronicle) → IsMoving e → request_instance (e ∷ c) ≡ request_instance c
moving-acted (Given given) c is = absurd is
moving-acted (Aimed i aim environment its) c is = absurd is
moving-acted (Restarted i its) c is = absurd is
moving-acted e c is = refl

-- what instances hold becomes no more
moving-held : (r i : ℕ) (e : Entry) (c : Chronicle) → IsMoving e → below r (holders i c) ≡ true
    → below r (holders i (e ∷ c)) ≡ true
moving-held r i (Aimed other aim environment its) c is h = absurd is
moving-held r i (Restarted other its) c is h = absurd is
moving-held r i (Released other failed) c is h = by_case (other == i)
  where
    by_case : (b : Bool) → below r (if b then [] else holders i c) ≡ true
    by_case true = refl
    by_case false = h
moving-held r i e c is h = h

pub movings-held : (r i : ℕ) (es c : List Entry) → AllByRecursion IsMoving es → below r (holders i c) ≡ true
    → below r (holders i (es ++ c)) ≡ true
movings-held r i [] c all h = h
movings-held r i (e ∷ es) c all h = moving-held r i e (es ++ c) all.0 (movings-held r i es c all.1 h)

-- answers to others
abbrev pub IsUnsaid : ℕ → Entry → Type 0
IsUnsaid r (Given given) = ⊥
IsUnsaid r (Replied other answer) = (other == r) ≡ false
IsUnsaid r e = Unit {0}

pub unsaid-same : (r : ℕ) (e : Entry) (c : Chronicle) → IsUnsaid r e
    → was_answered r (e ∷ c) ≡ was_answered r c
unsaid-same r (Given given) c is = absurd is
unsaid-same r (Replied other answer) c is = rw is refl
unsaid-same r e c is = refl

and-left : (a b : Bool) → (a && b) ≡ true → a ≡ true
and-left true b h = refl
and-left false b h = absurd (cc)

and-right : (a b : Bool) → (a && b) ≡ true → b ≡ true
and-right true b h = h
and-right false b h = absurd (cc)

unsaid-one : (r p : ℕ) (o : Option RequestValue) (failed : Bool) (text : Bytes) → nat_lt p r ≡ true
    → AllByRecursion (IsUnsaid r) (answering_one p o failed text)
unsaid-one r p None failed text h = tt
unsaid-one r p (Some request) failed text h =
    (ne_eqb p r (λ same. let less = ltb-true p r h in omega arith), tt)

unsaid-answering : (r : ℕ) (ps : List ℕ) (failed : Bool) (text : Bytes) (c : Chronicle) → below r ps ≡ true
    → AllByRecursion (IsUnsaid r) (answering ps failed text c)
unsaid-answering r [] failed text c h = tt
unsaid-answering r (p ∷ ps) failed text c h =
    all-append (IsUnsaid r) (answering ps failed text c) (answering_one p (request_at p c) failed text)
    (unsaid-answering r ps failed text c (and-right (nat_lt p r) (below r ps) h))
    (unsaid-one r p (request_at p c) failed text (and-left (nat_lt p r) (below r ps) h))

pub unsaid-releasing : (r i : ℕ) (failed : Bool) (c : Chronicle) → below r (holders i c) ≡ true
    → AllByRecursion (IsUnsaid r) (releasing i failed c)
unsaid-releasing r i failed c h =
    all-append (IsUnsaid r) (answering (holders i c) failed (status_of i c) c) (Released i failed ∷ [])
    (unsaid-answering r (holders i c) failed (status_of i c) c h) (tt, tt)

-- a move before what it releases answers nobody
abbrev IsWordless : Entry → Type 0
IsWordless (Queued origin event) = Unit {0}
IsWordless (Entered i to) = Unit {0}
IsWordless (Ordered i its) = Unit {0}
IsWordless (Signalled i signal by_timer) = Unit {0}
IsWordless e = ⊥

wordless-unsaid : (r : ℕ) (e : Entry) → IsWordless e → IsUnsaid r e
wordless-unsaid r (Queued origin event) is = tt
wordless-unsaid r (Entered i to) is = tt
wordless-unsaid r (Ordered i its) is = tt
wordless-unsaid r (Signalled i signal by_timer) is = tt
wordless-unsaid r e is = absurd is

wordless-holders : (i : ℕ) (e : Entry) (c : Chronicle) → IsWordless e → holders i (e ∷ c) ≡ holders i c
wordless-holders i (Queued origin event) c is = refl
wordless-holders i (Entered other to) c is = refl
wordless-holders i (Ordered other its) c is = refl
wordless-holders i (Signalled other signal by_timer) c is = refl
wordless-holders i e c is = absurd is

wordless-emitting : (def : JobDef) (who : Who) (i : ℕ) (to : State) (o : Option JobEvent) (c : Chronicle)
    → AllByRecursion IsWordless (emitting def who i to o c)
wordless-emitting def who i to None c = tt
wordless-emitting def who i to (Some kind) c = (tt, tt)

wordless-ordering : (def : JobDef) (i : ℕ) (o : Option Process) → AllByRecursion IsWordless (ordering def i o)
wordless-ordering def i None = tt
wordless-ordering def i (Some its) = all-if IsWordless (has_process def its) (Ordered i its ∷ []) (tt, tt)

wordless-enter : (def : JobDef) (who : Who) (i : ℕ) (to : State) (entry : table.EntryActions) (c : Chronicle)
    → AllByRecursion IsWordless (enter def who i to entry c)
wordless-enter def who i to entry c =
    all-append IsWordless
    (entries_if (entry.kills && lives i Main c) (Signalled i def.kill_signal false ∷ []))
    (emitting def who i to entry.emits (one ++ c) ++ one)
    (all-if IsWordless (entry.kills && lives i Main c) (Signalled i def.kill_signal false ∷ []) (tt, tt))
    (all-append IsWordless (emitting def who i to entry.emits (one ++ c)) one
    (wordless-emitting def who i to entry.emits (one ++ c))
    (all-append IsWordless (ordering def i entry.orders) (Entered i to ∷ [])
    (wordless-ordering def i entry.orders) (tt, tt)))
  where
    one : List Entry
    one = ordering def i entry.orders ++ Entered i to ∷ []

unsaid-move : (r : ℕ) (def : JobDef) (x : Instance) (c : Chronicle) → below r (holders x.place c) ≡ true
    → AllByRecursion (IsUnsaid r) (move def x c)
unsaid-move r def x c h =
    all-append (IsUnsaid r) (entries_if entry.releases (releasing x.place false (one ++ c))) one
    (all-if (IsUnsaid r) entry.releases (releasing x.place false (one ++ c))
    (unsaid-releasing r x.place false (one ++ c)
    (ap (below r) (same-append (holders x.place) IsWordless (wordless-holders x.place) one c words) ∙ h)))
    (all-weaker IsWordless (IsUnsaid r) (wordless-unsaid r) one words)
  where
    to : State
    to = next_of def x.place c

    entry : table.EntryActions
    entry = entering to (state_of x.place c) def.task

    one : List Entry
    one = enter def (who_of def x) x.place to entry c

    words : AllByRecursion IsWordless one
    words = wordless-enter def (who_of def x) x.place to entry c

-- the waiting goes on by a move of the job's
pub twins-more : (f g : Instance → Bool) (h k : Instance → Bool) (xs ys : List Instance)
    → ((u : Instance) → f u ≡ true → h u ≡ true) → Twins (λ u v. f u ≡ true) xs ys
    → Twins (λ u v. h u ≡ true) xs ys
twins-more f g h k [] [] go twins = tt
twins-more f g h k (x ∷ xs) (y ∷ ys) go twins = (go x twins.0, twins-more f g h k xs ys go twins.1)
twins-more f g h k [] (y ∷ ys) go twins = twins
twins-more f g h k (x ∷ xs) [] go twins = twins

pub twins-more_there : (f h : Instance → Bool) (xs ys : List Instance)
    → ((u : Instance) → f u ≡ true → h u ≡ true) → Twins (λ u v. true ≡ f v) xs ys
    → Twins (λ u v. true ≡ h v) xs ys
twins-more_there f h [] [] go twins = tt
twins-more_there f h (x ∷ xs) (y ∷ ys) go twins =
    (sym (go y (sym twins.0)), twins-more_there f h xs ys go twins.1)
twins-more_there f h [] (y ∷ ys) go twins = twins
twins-more_there f h (x ∷ xs) [] go twins = twins

waits-moved : (job : Bytes) (config : Configuration) (def : JobDef) (c d : Chronicle) (r q : ℕ)
    (x y u v : Instance) → At u v (instances_of job c) (instances_of job d)
    → Waits job config c d r q x y → Waits job config (move def u c ++ c) (move def v d ++ d) r q x y
waits-moved job config def c d r q x y u v at waits = record {
  like = carries.pair.like;
  offers = same-append offering IsMoving moving-offering es c left ∙ waits.offers;
  offers_there = same-append offering IsMoving moving-offering fs d right ∙ waits.offers_there;
  asking = same-append asked IsMoving moving-asked es c left ∙ waits.asking;
  asking_there = same-append asked IsMoving moving-asked fs d right ∙ waits.asking_there;
  silent = same-append (was_answered r) (IsUnsaid r) (unsaid-same r) es c
      (unsaid-move r def u c (at-twins (λ a b. below r (holders a.place c) ≡ true) u v (instances_of job c)
      (instances_of job d) at waits.held)) ∙ waits.silent;
  silent_there = same-append (was_answered q) (IsUnsaid q) (unsaid-same q) fs d
      (unsaid-move q def v d
      (sym (at-twins (λ a b. true ≡ below q (holders b.place d)) u v (instances_of job c)
      (instances_of job d) at waits.held_there))) ∙ waits.silent_there;
  request =
      (entry-append r es c waits.older).1 ∙ waits.request ∙ sym (entry-append q fs d waits.older_there).1;
  older = (entry-append r es c waits.older).0;
  older_there = (entry-append q fs d waits.older_there).0;
  own = ap (λ o. was_asked job (request_in o)) (entry-append r es c waits.older).1 ∙ waits.own;
  acted = same-append request_instance IsMoving moving-acted es c left ∙ waits.acted;
  acted_there = same-append request_instance IsMoving moving-acted fs d right ∙ waits.acted_there;
  guest = carries.carries x y
      (flip (at-twins (Match x.place y.place) u v (instances_of job c) (instances_of job d) at
      waits.guest.match)) waits.guest;
  held = twins-more (λ a. below r (holders a.place c)) (λ a. true) (λ a. below r (holders a.place (es ++ c)))
      (λ a. true) (instances_of job (es ++ c)) (instances_of job (fs ++ d))
      (λ a h. movings-held r a.place es c left h)
      (carries.shrinks (λ a. below r (holders a.place c)) (λ b. true) waits.held);
  held_there = twins-more_there (λ b. below q (holders b.place d)) (λ b. below q (holders b.place (fs ++ d)))
      (instances_of job (es ++ c)) (instances_of job (fs ++ d))
      (λ b h. movings-held q b.place fs d right h)
      (carries.shrinks (λ a. true) (λ b. below q (holders b.place d)) waits.held_there);
}
  where
    es : List Entry
    es = move def u c

    fs : List Entry
    fs = move def v d

    left : AllByRecursion IsMoving es
    left = move-moving def u c

    right : AllByRecursion IsMoving fs
    right = move-moving def v d

    carries : Carries job config c d (es ++ c) (fs ++ d) u v
    carries = pair_move job config def c d u v (pair-at job config c d u v at waits.like)

    flip : (u.place == x.place) ≡ (v.place == y.place) → (u.place == x.place) ≡ (v.place == y.place)
    flip same = same

-- and by moves of others
strange-passes : (job : Bytes) (e : Entry) (c : Chronicle) (x : Instance) → IsStrange job e c → PassesBy job e c x
strange-passes job (Finished event) c x is = absurd is
strange-passes job (Offered (StopOn i) event) c x is = inl is.0
strange-passes job e c x is = tt

spares-of : (job : Bytes) (config : Configuration) (e : Entry) (c : Chronicle) (x : Instance)
    → IsKnown job c x → IsStrange job e c → Spares job config e c x
spares-of job config e c x known is =
    spares job config e c x known (strange-foreign job config e c is) (strange-passes job e c x is)

guest-strange : (job : Bytes) (config : Configuration) (e : Entry) (c d : Chronicle) (x y : Instance)
    → IsStrange job e c → Guest job config c d x y → Guest job config (e ∷ c) d x y
guest-strange job config e c d x y is guest = record {
  twin = twin-spared job config e c d x y (spares-of job config e c x guest.left is) guest.twin;
  left = known-one job e c x guest.left;
  right = guest.right;
  match = subst (λ xs. Twins (Match x.place y.place) xs (instances_of job d))
      (sym (instances-same job config e c (strange-foreign job config e c is))) guest.match;
}

held-strange : (job : Bytes) (config : Configuration) (e : Entry) (c : Chronicle) (r : ℕ)
    (xs ys : List Instance) → IsStrange job e c → AllByRecursion (IsKnown job c) xs
    → Twins (λ u v. below r (holders u.place c) ≡ true) xs ys
    → Twins (λ u v. below r (holders u.place (e ∷ c)) ≡ true) xs ys
held-strange job config e c r [] [] is known twins = tt
held-strange job config e c r (x ∷ xs) (y ∷ ys) is known twins = (
  ap (below r) (spares-of job config e c x known.0 is).holders ∙ twins.0,
  held-strange job config e c r xs
      ys is known.1 twins.1,
)
held-strange job config e c r [] (y ∷ ys) is known twins = twins
held-strange job config e c r (x ∷ xs) [] is known twins = twins

unsaid-strange : (job : Bytes) (e : Entry) (c : Chronicle) (r : ℕ) → IsStrange job e c
    → was_asked job (request_at r c) ≡ true → IsUnsaid r e
unsaid-strange job (Given given) c r is own = absurd is
unsaid-strange job (Replied other answer) c r is own = ne_eqb other r (λ same.
    let there : was_asked job (request_at other c) ≡ true =
    ap (λ k. was_asked job (request_at k c)) same ∙ own in
    absurd (cc))
unsaid-strange job e c r is own = tt

waits-one : (job : Bytes) (config : Configuration) (e : Entry) (c d : Chronicle) (r q : ℕ) (x y : Instance)
    → IsStrange job e c → IsMoving e → Waits job config c d r q x y
    → Waits job config (e ∷ c) d r q x y
waits-one job config e c d r q x y is moving waits = record {
  like = like-strange job config (e ∷ []) c d (is, tt) waits.like;
  offers = moving-offering e c moving ∙ waits.offers;
  offers_there = waits.offers_there;
  asking = moving-asked e c moving ∙ waits.asking;
  asking_there = waits.asking_there;
  silent = unsaid-same r e c (unsaid-strange job e c r is waits.own) ∙ waits.silent;
  silent_there = waits.silent_there;
  request = (entry-append r (e ∷ []) c waits.older).1 ∙ waits.request;
  older = (entry-append r (e ∷ []) c waits.older).0;
  older_there = waits.older_there;
  own = ap (λ o. was_asked job (request_in o)) (entry-append r (e ∷ []) c waits.older).1 ∙ waits.own;
  acted = moving-acted e c moving ∙ waits.acted;
  acted_there = waits.acted_there;
  guest = guest-strange job config e c d x y is waits.guest;
  held = subst (λ xs. Twins (λ u v. below r (holders u.place (e ∷ c)) ≡ true) xs (instances_of job d))
      (sym (instances-same job config e c (strange-foreign job config e c is)))
      (held-strange job config e c r (instances_of job c) (instances_of job d) is (known job c) waits.held);
  held_there = subst (λ xs. Twins (λ u v. true ≡ below q (holders v.place d)) xs (instances_of job d))
      (sym (instances-same job config e c (strange-foreign job config e c is))) waits.held_there;
}

waits-strange : (job : Bytes) (config : Configuration) (es : List Entry) (c d : Chronicle) (r q : ℕ)
    (x y : Instance) → AreStrange job es c → AllByRecursion IsMoving es → Waits job config c d r q x y
    → Waits job config (es ++ c) d r q x y
waits-strange job config [] c d r q x y are moving waits = waits
waits-strange job config (e ∷ es) c d r q x y are moving waits =
    waits-one job config e (es ++ c) d r q x y are.0 moving.0
    (waits-strange job config es c d r q x y are.1 moving.1 waits)

-- what is moved first is a move
or-moving : (es fs : List Entry) → AllByRecursion IsMoving es → AllByRecursion IsMoving fs
    → AllByRecursion IsMoving (or_else es fs)
or-moving [] fs all other = other
or-moving (e ∷ es) fs all other = all

in-moving : (xs : List Instance) (c : Chronicle) → AllByRecursion IsMoving (move_in xs c)
in-moving [] c = tt
in-moving (x ∷ xs) c =
    or-moving (move_of x.file x c) (move_in xs c)
    (all-if IsMoving (may_leave x.file x.place c) (move x.file x c) (move-moving x.file x c)) (in-moving xs c)

first-moving : (names : List Bytes) (c : Chronicle) → AllByRecursion IsMoving (move_first names c)
first-moving [] c = tt
first-moving (name ∷ names) c =
    or-moving (move_in (instances_of name c) c) (move_first names c)
    (in-moving (instances_of name c) c) (first-moving names c)

-- what becomes of it by what is due
data Went (job : Bytes) (config : Configuration) (c d : Chronicle) (r q : ℕ) (x y : Instance) : Type 0 where
  Away : (due config c ≡ [] → ⊥) → Waits job config (due config c ++ c) d r q x y
      → Went job config c d r q x y
  Together : (due config c ≡ [] → ⊥) → (due (only job config) d ≡ [] → ⊥)
      → Waits job config (due config c ++ c) (due (only job config) d ++ d) r q x y
      → Went job config c d r q x y
  Last : (due config c ≡ [] → ⊥) → (due (only job config) d ≡ [] → ⊥)
      → Plain job config (due config c ++ c) (due (only job config) d ++ d) → Went job config c d r q x y

waits-due : (job : Bytes) (config : Configuration) (c d : Chronicle) (r q : ℕ) (x y : Instance)
    → Waits job config c d r q x y → Went job config c d r q x y
unfolding due
waits-due job config c d r q x y waits = by_moves (moves-first job config config.jobs c d waits.like)
  where
    rest : List Entry
    rest = or_else (offer_next config (offering c) c) (answering_last c)

    rest_there : List Entry
    rest_there = or_else (offer_next (only job config) (offering d) d) (answering_last d)

    cons-some : (e : Entry) (es : List Entry) → e ∷ es ≡ [] → ⊥
    cons-some e es none = cc

    answer : Answer
    answer = record { ok = true; text = status_of x.place c }

    answer_there : Answer
    answer_there = record { ok = true; text = status_of y.place d }

    same : answer ≡ answer_there
    same =
        ap (λ (text : Bytes). record { ok = true; text = text })
        (status-same x.place y.place c d (waits.guest.left.1 ∙ ap (λ name. Some (called job name))
        waits.guest.twin.name ∙ sym waits.guest.right.1) waits.guest.twin.bond.alike)

    hurried : (t : Chronicle) (k : ℕ) → asked t ≡ Some k → was_answered k t ≡ false → unanswered t ≡ Some k
    hurried t k some none = ap (λ o. unless_answered o t) some ∙ rw none refl

    last : rest ≡ Replied r answer ∷ []
    last =
        ap (λ o. or_else (offer_next config o c) (answering_last c)) waits.offers
        ∙ ap (λ o. answering_hurried o c) (hurried c r waits.asking waits.silent)
        ∙ ap (λ o. Replied r (record { ok = true; text = status_if o c }) ∷ []) waits.acted

    last_there : rest_there ≡ Replied q answer_there ∷ []
    last_there =
        ap (λ o. or_else (offer_next (only job config) o d) (answering_last d)) waits.offers_there
        ∙ ap (λ o. answering_hurried o d) (hurried d q waits.asking_there waits.silent_there)
        ∙ ap (λ o. Replied q (record { ok = true; text = status_if o d }) ∷ []) waits.acted_there

    over : (t : Chronicle) (k : ℕ) (its : Answer) → asked t ≡ Some k → unanswered (Replied k its ∷ t) ≡ None
    over t k its some = ap (λ o. unless_answered o (Replied k its ∷ t)) some ∙ rw (eq-eqb k k refl) refl

    done : Plain job config (Replied r answer ∷ c) (Replied q answer_there ∷ d)
    done = record {
      like = subst (λ its. Like job config (Replied r answer ∷ c) (Replied q its ∷ d)) same
          (like_replied job config c d r q answer waits.request waits.like);
      offers = None' waits.offers waits.offers_there;
      silent = over c r answer waits.asking;
      silent_there = over d q answer_there waits.asking_there;
    }

    by_moves : Moves job c d (move_first (names_in_order config c) c) (move_first (names_in_order (only job config) d) d)
        → Went job config c d r q x y
    by_moves (movers.Idle none void) =
        let here : due config c ≡ Replied r answer ∷ [] =
        or_else-second (move_first (names_in_order config c) c) rest none ∙ last in
        let there : due (only job config) d ≡ Replied q answer_there ∷ [] =
        or_else-second (move_first (names_in_order (only job config) d) d) rest_there void ∙ last_there in
        Last (λ bad. cons-some (Replied r answer) [] (sym here ∙ bad))
        (λ bad. cons-some (Replied q answer_there) [] (sym there ∙ bad))
        (subst₂ (λ (s t : List Entry). Plain job config (s ++ c) (t ++ d)) (sym here) (sym there) done)
    by_moves (movers.Away some are) =
        let here : due config c ≡ move_first (names_in_order config c) c =
        or_else-first (move_first (names_in_order config c) c) rest some in
        Away (λ none. some (sym here ∙ none))
        (subst (λ (t : List Entry). Waits job config (t ++ c) d r q x y) (sym here)
        (waits-strange job config (move_first (names_in_order config c) c) c d r q x y are (first-moving (names_in_order config c) c)
        waits))
    by_moves (movers.Two def u v at left right) =
        let here : due config c ≡ move def u c = or_else-first (move_first (names_in_order config c) c) rest
        (λ none. move-some def u c (sym left ∙ none)) ∙ left in
        let there : due (only job config) d ≡ move def v d = or_else-first
        (move_first (names_in_order (only job config) d) d) rest_there
        (λ none. move-some def v d (sym right ∙ none)) ∙ right in
        Together (λ none. move-some def u c (sym here ∙ none)) (λ none. move-some def v d (sym there ∙ none))
        (subst₂ (λ (s t : List Entry). Waits job config (s ++ c) (t ++ d) r q x y) (sym here) (sym there)
        (waits-moved job config def c d r q x y u v at waits))

-- so it comes to rest
pub waits-settle : (n : ℕ) (job : Bytes) (config : Configuration) (c d : Chronicle) (r q : ℕ) (x y : Instance)
    → Waits job config c d r q x y → due config (settle n config c) ≡ []
    → Like job config (settle n config c) (settle (work (only job config) d) (only job config) d)
unfolding settle
waits-settle zero job config c d r q x y waits none = by_went (waits-due job config c d r q x y waits)
  where
    by_went : Went job config c d r q x y
        → Like job config c (settle (work (only job config) d) (only job config) d)
    by_went (Away some next) = absurd (some none)
    by_went (Together some other next) = absurd (some none)
    by_went (Last some other next) = absurd (some none)
waits-settle (suc n) job config c d r q x y waits none =
    by_went (waits-due job config c d r q x y waits)
    (λ e next. waits-settle n job config (due config c ++ c) e r q x y next none)
  where
    by_went : Went job config c d r q x y
        → ((e : Chronicle) → Waits job config (due config c ++ c) e r q x y
        → Like job config (settle n config (due config c ++ c))
        (settle (work (only job config) e) (only job config) e))
        → Like job config (settle n config (due config c ++ c))
        (settle (work (only job config) d) (only job config) d)
    by_went (Away some after) next = next d after
    by_went (Together some other after) next =
        subst (λ (t : Chronicle). Like job config (settle n config (due config c ++ c)) t)
        (settle-near (only job config) d other) (next (due (only job config) d ++ d) after)
    by_went (Last some other after) next =
        subst (λ (t : Chronicle). Like job config (settle n config (due config c ++ c)) t)
        (settle-near (only job config) d other)
        (plain-settle n job config (due config c ++ c) (due (only job config) d ++ d) after none)
