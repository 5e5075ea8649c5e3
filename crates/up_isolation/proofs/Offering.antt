-- Expressions of the job that have seen the same fire alike.
use Rattle.up_isolation.proofs.Names.{◌≡◌, ℕ, ◌<◌, ◌≤◌, inl, inr, Bool, true, false, List, [], ◌∷◌, ◌++◌, Option}
use Rattle.up_isolation.proofs.Names.{None, Some, length, if◌then◌else◌, bytes_eq, refl, sym, ◌∙◌, ap, ap₂, subst}
use Rattle.up_isolation.proofs.Names.{arith, not, ◌&&◌, subst₂, append_assoc, nat_lt, option_to_list}
use Rattle.up_isolation.proofs.Names.{AllByRecursion, JobDef, matches, Tree, One, Both, Either, Sight, Leaf, Event}
use Rattle.up_isolation.proofs.Names.{Start, Stop, Who, Chronicle, Entry, Queued, Offered, Fired, Made, Aimed}
use Rattle.up_isolation.proofs.Names.{StartOn, StopOn, Configuration, job_named, env_by_job, env_of_job}
use Rattle.up_isolation.proofs.Names.{start_base, instance_name, events_at, events_env, with_instance, stopped_by}
use Rattle.up_isolation.proofs.Names.{own_file, start_on_of, Instance, instances_of, instance_named, place_named}
use Rattle.up_isolation.proofs.Names.{stop_of, stop_by, stop_offer, max_instances, start_of, who_called, start_who}
use Rattle.up_isolation.proofs.Names.{start_env, start_by, start_offer, is_start, entries_if, entry_at, event_at}
use Rattle.up_isolation.proofs.Names.{goal, event_of, releasing, seen, holds, taken, Bytes, Bindings, called}
use Rattle.up_isolation.proofs.Names.{count, contents, content, Content, content_of}
use Rattle.up_expr.specs.Truth as truth
use Rattle.up_model.specs.Files.{file_at, start_file_at, start_file}
use Rattle.up_model.proofs.Places.{all_instances-once, instances-exist}
use Rattle.up_isolation.specs.Parts.{AnEvent}
use Rattle.up_isolation.proofs.Lives.{Life}
use Rattle.up_isolation.proofs.Sights.{told, AreKnown, event_of_sight, first_event, taken_events, holds-told}
use Rattle.up_isolation.proofs.Sights.{taken-told, taken-known}
use Rattle.up_isolation.proofs.Twins.{Twins, At, at-twins, matched, twins_map}
use Rattle.up_isolation.proofs.Known.{IsKnown, AreOlder, contents-later, older-later, known, seen-known}
use Rattle.up_isolation.proofs.Known.{known-sights-later, entry-older}
use Rattle.up_isolation.proofs.Likes.{only, named-only, Twin, Like}
use Rattle.up_isolation.proofs.Pairs.{Pair, Carries, carries-none}
use Rattle.up_isolation.proofs.Others.{like_offered, like_fired, pair_offered, pair_fired, env-only}
use Rattle.up_isolation.proofs.Entries.{pair_aimed}
use Rattle.up_isolation.proofs.Making.{instance-at, pair_made}
use Rattle.up_isolation.proofs.Releases.{carries-append, pair_releasing, later-contents, later-older}

pub holds-same : (o : Option Tree) (ss rs : List Sight) → told o ss ≡ told o rs → holds o ss ≡ holds o rs
holds-same None ss rs same = refl
holds-same (Some tree) ss rs same = sym (holds-told tree ss) ∙ ap (truth.holds tree) same ∙ holds-told tree rs

abbrev events_of : Option Tree → List Sight → List Event
events_of None ss = []
events_of (Some tree) ss = taken_events tree ss

events-same : (o : Option Tree) (ss rs : List Sight) → told o ss ≡ told o rs → events_of o ss ≡ events_of o rs
events-same None ss rs same = refl
events-same (Some tree) ss rs same = sym (taken-told tree ss) ∙ ap (taken_events tree) same ∙ taken-told tree rs

-- what is taken is these events
events-at : (o : Option Tree) (ss : List Sight) (c : Chronicle) → AreKnown c ss
    → events_at (taken o ss) c ≡ events_of o ss
events-at None ss c known = refl
events-at (Some tree) ss c known = taken-known tree ss c known

abbrev as_contents : List Event → List Content
as_contents [] = []
as_contents (event ∷ events) = AnEvent event ∷ as_contents events

pub event-content : (o : Option Entry) (event : Event) → event_of o ≡ Some event
    → content_of o ≡ AnEvent event
event-content (Some (Queued origin its)) event some = let same : its ≡ event = cc in ap AnEvent same
event-content o event some = absurd (cc)

contents-append : (ps qs : List ℕ) (c : Chronicle) → contents (ps ++ qs) c ≡ contents ps c ++ contents qs c
contents-append [] qs c = refl
contents-append (p ∷ ps) qs c = ap (λ rest. content p c ∷ rest) (contents-append ps qs c)

as-append : (es fs : List Event) → as_contents (es ++ fs) ≡ as_contents es ++ as_contents fs
as-append [] fs = refl
as-append (e ∷ es) fs = ap (λ rest. AnEvent e ∷ rest) (as-append es fs)

first-content : (leaf : Leaf) (ss : List Sight) (c : Chronicle) → AreKnown c ss
    → contents (option_to_list (truth.first leaf ss)) c ≡ as_contents (option_to_list (first_event leaf ss))
first-content leaf [] c known = refl
first-content leaf (s ∷ ss) c known =
    by_case (matches leaf s.name s.vars s.env) (first-content leaf ss c known.1)
  where
    by_case : (b : Bool)
        → contents (option_to_list (truth.first leaf ss)) c
        ≡ as_contents (option_to_list (first_event leaf ss))
        → contents (option_to_list (if b then Some s.event else truth.first leaf ss)) c
        ≡ as_contents (option_to_list (if b then Some (event_of_sight s) else first_event leaf ss))
    by_case true ih =
        ap (λ (its : Content). its ∷ []) (event-content (entry_at s.event c) (event_of_sight s) known.0)
    by_case false ih = ih

tree-contents : (tree : Tree) (ss : List Sight) (c : Chronicle) → AreKnown c ss
    → contents (truth.taken tree ss) c ≡ as_contents (taken_events tree ss)
tree-contents (One leaf) ss c known = first-content leaf ss c known
tree-contents (Both left right) ss c known = by_case (truth.holds left ss && truth.holds right ss)
    (tree-contents left ss c known) (tree-contents right ss c known)
  where
    by_case : (b : Bool) → contents (truth.taken left ss) c ≡ as_contents (taken_events left ss)
        → contents (truth.taken right ss) c ≡ as_contents (taken_events right ss)
        → contents (if b then truth.taken left ss ++ truth.taken right ss else []) c
        ≡ as_contents (if b then taken_events left ss ++ taken_events right ss else [])
    by_case true one other =
        contents-append (truth.taken left ss) (truth.taken right ss) c ∙ ap₂ (λ (a b : List Content). a ++ b)
        one other
        ∙ sym (as-append (taken_events left ss) (taken_events right ss))
    by_case false one other = refl
tree-contents (Either left right) ss c known =
    contents-append (truth.taken left ss) (truth.taken right ss) c
    ∙ ap₂ (λ (a b : List Content). a ++ b) (tree-contents left ss c known) (tree-contents right ss c known)
    ∙ sym (as-append (taken_events left ss) (taken_events right ss))

contents-at : (o : Option Tree) (ss : List Sight) (c : Chronicle) → AreKnown c ss
    → contents (taken o ss) c ≡ as_contents (events_of o ss)
contents-at None ss c known = refl
contents-at (Some tree) ss c known = tree-contents tree ss c known

-- what is taken is older
older-append : (n : ℕ) (ps qs : List ℕ) → AreOlder n ps → AreOlder n qs → AreOlder n (ps ++ qs)
older-append n [] qs older other = other
older-append n (p ∷ ps) qs older other = (older.0, older-append n ps qs older.1 other)

event-older : (p : ℕ) (c : Chronicle) (event : Event) → event_at p c ≡ Some event → p < length c
event-older p c event some = by_case (entry_at p c) refl
  where
    by_case : (o : Option Entry) → entry_at p c ≡ o → p < length c
    by_case None none =
        let bad : event_of None ≡ Some event = subst (λ w. event_of w ≡ Some event) none some in absurd (cc)
    by_case (Some e) is = entry-older p c e is

first-older : (leaf : Leaf) (ss : List Sight) (c : Chronicle) → AreKnown c ss
    → AreOlder (length c) (option_to_list (truth.first leaf ss))
first-older leaf [] c known = tt
first-older leaf (s ∷ ss) c known = by_case (matches leaf s.name s.vars s.env) (first-older leaf ss c known.1)
  where
    by_case : (b : Bool) → AreOlder (length c) (option_to_list (truth.first leaf ss))
        → AreOlder (length c) (option_to_list (if b then Some s.event else truth.first leaf ss))
    by_case true ih = (event-older s.event c (event_of_sight s) known.0, tt)
    by_case false ih = ih

tree-older : (tree : Tree) (ss : List Sight) (c : Chronicle) → AreKnown c ss
    → AreOlder (length c) (truth.taken tree ss)
tree-older (One leaf) ss c known = first-older leaf ss c known
tree-older (Both left right) ss c known = by_case (truth.holds left ss && truth.holds right ss)
    (tree-older left ss c known) (tree-older right ss c known)
  where
    by_case : (b : Bool) → AreOlder (length c) (truth.taken left ss)
        → AreOlder (length c) (truth.taken right ss)
        → AreOlder (length c) (if b then truth.taken left ss ++ truth.taken right ss else [])
    by_case true one other = older-append (length c) (truth.taken left ss) (truth.taken right ss) one other
    by_case false one other = tt
tree-older (Either left right) ss c known = older-append (length c) (truth.taken left ss)
    (truth.taken right ss) (tree-older left ss c known) (tree-older right ss c known)

pub taken-older : (o : Option Tree) (ss : List Sight) (c : Chronicle) → AreKnown c ss
    → AreOlder (length c) (taken o ss)
taken-older None ss c known = tt
taken-older (Some tree) ss c known = tree-older tree ss c known

-- what two expressions that have seen the same take
pub record TakesSame (c d : Chronicle) (ps qs : List ℕ) : Type 0 where
  pub events : events_at ps c ≡ events_at qs d
  pub contents : contents ps c ≡ contents qs d
  pub older : AreOlder (length c) ps
  pub older_there : AreOlder (length d) qs

pub takes-same : (o : Option Tree) (ss rs : List Sight) (c d : Chronicle)
    → AreKnown c ss → AreKnown d rs → told o ss ≡ told o rs
    → TakesSame c d (taken o ss) (taken o rs)
takes-same o ss rs c d known knowns same = record {
  events = events-at o ss c known ∙ events-same o ss rs same ∙ sym (events-at o rs d knowns);
  contents = contents-at o ss c known ∙ ap as_contents (events-same o ss rs same)
      ∙ sym (contents-at o rs d knowns);
  older = taken-older o ss c known;
  older_there = taken-older o rs d knowns;
}

-- a stop by what is taken
pair_stop_of : (job : Bytes) (config : Configuration) (c d : Chronicle) (x y : Instance)
    (environment other : Bindings) (ps qs : List ℕ) → environment ≡ other
    → contents ps c ≡ contents qs d → AreOlder (length c) ps → AreOlder (length d) qs
    → Pair job config c d x y
    → Carries job config c d (stop_of x.place environment ps c ++ c) (stop_of y.place other qs d ++ d) x y
pair_stop_of job config c d x y environment other ps qs equal same older there pair =
    rw (← equal) (carries-append job config c d x y (Aimed x.place Stop environment ps ∷ [])
    (releasing x.place false c) (Aimed y.place Stop environment qs ∷ []) (releasing y.place false d)
    (pair_releasing job config c d x y false pair)
    (λ next. pair_aimed job config (releasing x.place false c ++ c) (releasing y.place false d ++ d) x y Stop
    environment ps qs
    (later-contents ps c (releasing x.place false c) older ∙ same
    ∙ sym (later-contents qs d (releasing y.place false d) there))
    (later-older ps c (releasing x.place false c) older) (later-older qs d (releasing y.place false d) there)
    next))

pair_stop_by : (job : Bytes) (config : Configuration) (c d : Chronicle) (x y : Instance) (ps qs : List ℕ)
    → TakesSame c d ps qs → Pair job config c d x y
    → Carries job config c d (stop_by x.place ps c ++ c) (stop_by y.place qs d ++ d) x y
pair_stop_by job config c d x y ps qs takes pair =
    by_case (is_start (goal x.place c)) (is_start (goal y.place d))
    (ap (λ (l : Life). is_start l.goal) pair.twin.bond.alike)
  where
    by_case : (b a : Bool) → b ≡ a
        → Carries job config c d (entries_if b (stop_of x.place (stopped_by (events_at ps c)) ps c) ++ c)
        (entries_if a (stop_of y.place (stopped_by (events_at qs d)) qs d) ++ d) x y
    by_case true true same =
        pair_stop_of job config c d x y (stopped_by (events_at ps c)) (stopped_by (events_at qs d)) ps qs
        (ap stopped_by takes.events) takes.contents takes.older takes.older_there pair
    by_case false false same = carries-none job config c d x y pair
    by_case true false same = absurd (cc)
    by_case false true same = absurd (cc)

-- takings stay the same
takes-later : (c d : Chronicle) (ps qs : List ℕ) (e f : Entry) → events_at ps (e ∷ c) ≡ events_at qs (f ∷ d)
    → TakesSame c d ps qs → TakesSame (e ∷ c) (f ∷ d) ps qs
takes-later c d ps qs e f events takes = record {
  events = events;
  contents =
      contents-later ps e c takes.older ∙ takes.contents ∙ sym (contents-later qs f d takes.older_there);
  older = older-later (length c) (length (e ∷ c)) ps (omega arith) takes.older;
  older_there = older-later (length d) (length (f ∷ d)) qs (omega arith) takes.older_there;
}

-- an instance's `stop on` is offered an event
pub pair_stop_offer : (job : Bytes) (config : Configuration) (c d : Chronicle) (x y : Instance)
    (p q : ℕ) → event_at p c ≡ event_at q d → content p c ≡ content q d → Pair job config c d x y
    → Carries job config c d (stop_offer config x.file x.place p c ++ c)
    (stop_offer (only job config) x.file y.place q d ++ d) x y
pair_stop_offer job config c d x y p q same stands pair =
    carries-append job config c d x y
    (entries_if (holds def.stop_on ss) (stop_by x.place ps fired ++ Fired (StopOn x.place) ps ∷ []))
    (Offered (StopOn x.place) p ∷ [])
    (entries_if (holds def.stop_on rs) (stop_by y.place qs fired_there ++ Fired (StopOn y.place) qs ∷ []))
    (Offered (StopOn y.place) q ∷ [])
    (pair_offered job config c d x y p q same stands pair)
    (λ next. by_case next (holds def.stop_on ss) (holds def.stop_on rs)
    (holds-same def.stop_on ss rs next.twin.bond.sights))
  where
    def : JobDef
    def = x.file

    offered : Chronicle
    offered = Offered (StopOn x.place) p ∷ c

    offered_there : Chronicle
    offered_there = Offered (StopOn y.place) q ∷ d

    ss : List Sight
    ss = seen config (StopOn x.place) offered

    rs : List Sight
    rs = seen (only job config) (StopOn y.place) offered_there

    ps : List ℕ
    ps = taken def.stop_on ss

    qs : List ℕ
    qs = taken def.stop_on rs

    fired : Chronicle
    fired = Fired (StopOn x.place) ps ∷ offered

    fired_there : Chronicle
    fired_there = Fired (StopOn y.place) qs ∷ offered_there

    known-left : AreKnown offered ss
    known-left = seen-known config (StopOn x.place) offered

    known-right : AreKnown offered_there rs
    known-right = seen-known (only job config) (StopOn y.place) offered_there

    by_case : Pair job config offered offered_there x y → (b a : Bool) → b ≡ a
        → Carries job config offered offered_there
        (entries_if b (stop_by x.place ps fired ++ Fired (StopOn x.place) ps ∷ []) ++ offered)
        (entries_if a (stop_by y.place qs fired_there ++ Fired (StopOn y.place) qs ∷ []) ++ offered_there) x y
    by_case next true true equal =
        let takes = takes-same def.stop_on ss rs offered offered_there known-left known-right
        next.twin.bond.sights in
        let later = takes-same def.stop_on ss rs fired fired_there
        (known-sights-later (Fired (StopOn x.place) ps) offered ss known-left)
        (known-sights-later (Fired (StopOn y.place) qs) offered_there rs known-right) next.twin.bond.sights in
        carries-append job config offered offered_there x y (stop_by x.place ps fired)
        (Fired (StopOn x.place) ps ∷ []) (stop_by y.place qs fired_there) (Fired (StopOn y.place) qs ∷ [])
        (pair_fired job config offered offered_there x y ps qs takes.contents next)
        (λ after. pair_stop_by job config fired fired_there x y ps qs later after)
    by_case next false false equal = carries-none job config offered offered_there x y next
    by_case next true false equal = absurd (cc)
    by_case next false true equal = absurd (cc)

-- two that stand side by side are known
pub at-known-left : (P : Instance → Type 0) (x y : Instance) (xs ys : List Instance) → At x y xs ys
    → AllByRecursion P xs → P x
at-known-left P x y (u ∷ us) (v ∷ vs) (inl here) all = subst P here.0 all.0
at-known-left P x y (u ∷ us) (v ∷ vs) (inr there) all = at-known-left P x y us vs there all.1
at-known-left P x y [] vs at all = absurd at
at-known-left P x y (u ∷ us) [] at all = absurd at

pub at-known-right : (P : Instance → Type 0) (x y : Instance) (xs ys : List Instance) → At x y xs ys
    → AllByRecursion P ys → P y
at-known-right P x y (u ∷ us) (v ∷ vs) (inl here) all = subst P here.1 all.0
at-known-right P x y (u ∷ us) (v ∷ vs) (inr there) all = at-known-right P x y us vs there all.1
at-known-right P x y [] vs at all = absurd at
at-known-right P x y (u ∷ us) [] at all = absurd at

pub once-of : (job : Bytes) (c : Chronicle) (p : ℕ) → count p (instances_of job c) ≤ 1
once-of job c p = omega (arith, instances-exist p job c, all_instances-once p c)

-- and a pair
pub pair-at : (job : Bytes) (config : Configuration) (c d : Chronicle) (x y : Instance)
    → At x y (instances_of job c) (instances_of job d) → Like job config c d → Pair job config c d x y
pair-at job config c d x y at like = record {
  like = like;
  twin = at-twins (Twin job config c d) x y (instances_of job c) (instances_of job d) at like.twins;
  left = at-known-left (IsKnown job c) x y (instances_of job c) (instances_of job d) at (known job c);
  right = at-known-right (IsKnown job d) x y (instances_of job c) (instances_of job d) at (known job d);
  match = matched x y (instances_of job c) (instances_of job d) at (once-of job c) (once-of job d)
      (twins_map (Twin job config c d) (λ u v. Unit {0}) (λ u v twin. tt) (instances_of job c)
      (instances_of job d) like.twins);
}

-- the instance of a name, on both sides
pub data Found (name : Bytes) (xs ys : List Instance) : Type 0 where
  Neither : place_named name xs ≡ None → place_named name ys ≡ None → Found name xs ys
  Two : (x y : Instance) → At x y xs ys → place_named name xs ≡ Some x.place
      → place_named name ys ≡ Some y.place → Found name xs ys

found-later : (name : Bytes) (x y : Instance) (xs ys : List Instance) → bytes_eq x.name name ≡ false
    → bytes_eq y.name name ≡ false → Found name xs ys → Found name (x ∷ xs) (y ∷ ys)
found-later name x y xs ys one other (Neither none void) = Neither (rw one none) (rw other void)
found-later name x y xs ys one other (Two u v at left right) = Two u v (inr at) (rw one left) (rw other right)

pub found : (job : Bytes) (config : Configuration) (c d : Chronicle) (name : Bytes) (xs ys : List Instance)
    → Twins (Twin job config c d) xs ys → Found name xs ys
found job config c d name [] [] twins = Neither refl refl
found job config c d name (x ∷ xs) (y ∷ ys) twins =
    by_case (bytes_eq x.name name) refl (found job config c d name xs ys twins.1)
  where
    by_case : (b : Bool) → bytes_eq x.name name ≡ b → Found name xs ys → Found name (x ∷ xs) (y ∷ ys)
    by_case true is ih = Two x y (inl (refl, refl)) (rw is refl)
        (rw (ap (λ its. bytes_eq its name) (sym twins.0.name) ∙ is) refl)
    by_case false is ih =
        found-later name x y xs ys is (ap (λ its. bytes_eq its name) (sym twins.0.name) ∙ is) ih
found job config c d name [] (y ∷ ys) twins = absurd twins
found job config c d name (x ∷ xs) [] twins = absurd twins

pub twins-length : (R : Instance → Instance → Type 0) (xs ys : List Instance) → Twins R xs ys
    → length xs ≡ length ys
twins-length R [] [] twins = refl
twins-length R (x ∷ xs) (y ∷ ys) twins = let rest = twins-length R xs ys twins.1 in omega (arith, rest)
twins-length R [] (y ∷ ys) twins = absurd twins
twins-length R (x ∷ xs) [] twins = absurd twins

-- a new instance is started
pub pair_start_new : (job : Bytes) (config : Configuration) (c d : Chronicle) (def : JobDef) (name : Bytes)
    (environment : Bindings) (ps qs : List ℕ) → def.name ≡ job
    → contents ps c ≡ contents qs d
    → AreOlder (length c) ps → AreOlder (length d) qs → instance_named (called job name) c ≡ None
    → Like job config c d
    → Pair job config (Aimed (length c) Start environment ps ∷ Made def name ∷ c)
    (Aimed (length d) Start environment qs ∷ Made def name ∷ d) (instance-at (length c) name def)
    (instance-at (length d) name def)
pair_start_new job config c d def name environment ps qs named same older there none like =
    (pair_aimed job config (Made def name ∷ c) (Made def name ∷ d) (instance-at (length c) name def)
    (instance-at (length d) name def) Start environment ps qs
    (contents-later ps (Made def name) c older ∙ same ∙ sym (contents-later qs (Made def name) d there))
    (older-later (length c) (length (Made def name ∷ c)) ps (omega arith) older)
    (older-later (length d) (length (Made def name ∷ d)) qs (omega arith) there)
    (pair_made job config def name c d named none like)).pair

-- one that is there is started
pub pair_start_old : (job : Bytes) (config : Configuration) (c d : Chronicle) (x y : Instance)
    (environment : Bindings) (ps qs : List ℕ) → contents ps c ≡ contents qs d
    → AreOlder (length c) ps → AreOlder (length d) qs → Pair job config c d x y
    → Carries job config c d ((Aimed x.place Start environment ps ∷ releasing x.place false c) ++ c)
    ((Aimed y.place Start environment qs ∷ releasing y.place false d) ++ d) x y
pair_start_old job config c d x y environment ps qs same older there pair =
    carries-append job config c d x y (Aimed x.place Start environment ps ∷ []) (releasing x.place false c)
    (Aimed y.place Start environment qs ∷ []) (releasing y.place false d)
    (pair_releasing job config c d x y false pair)
    (λ next. pair_aimed job config (releasing x.place false c ++ c) (releasing y.place false d ++ d) x y Start
    environment ps qs
    (later-contents ps c (releasing x.place false c) older ∙ same
    ∙ sym (later-contents qs d (releasing y.place false d) there))
    (later-older ps c (releasing x.place false c) older) (later-older qs d (releasing y.place false d) there)
    next)

like_start_of : (job : Bytes) (config : Configuration) (c d : Chronicle) (def : JobDef) (name : Bytes)
    (environment : Bindings) (ps qs : List ℕ) → def.name ≡ job → contents ps c ≡ contents qs d
    → AreOlder (length c) ps → AreOlder (length d) qs → Like job config c d
    → Like job config (start_of def (called job name) environment ps (instance_named (called job name) c) c ++ c)
    (start_of def (called job name) environment qs (instance_named (called job name) d) d ++ d)
like_start_of job config c d def name environment ps qs named same older there like =
    by_found (found job config c d name (instances_of job c) (instances_of job d) like.twins)
  where
    who : Who
    who = called job name

    by_room : instance_named who c ≡ None → (b a : Bool) → b ≡ a
        → Like job config (entries_if b (Aimed (length c) Start environment ps ∷ Made def name ∷ []) ++ c)
        (entries_if a (Aimed (length d) Start environment qs ∷ Made def name ∷ []) ++ d)
    by_room none true true equal =
        (pair_start_new job config c d def name environment ps qs named same older there none like).like
    by_room none false false equal = like
    by_room none true false equal = absurd (cc)
    by_room none false true equal = absurd (cc)

    by_goal : (x y : Instance) → At x y (instances_of job c) (instances_of job d) → (b a : Bool) → b ≡ a
        → Like job config (entries_if b (Aimed x.place Start environment ps ∷ releasing x.place false c) ++ c)
        (entries_if a (Aimed y.place Start environment qs ∷ releasing y.place false d) ++ d)
    by_goal x y at true true equal = (pair_start_old job config c d x y environment ps qs same older there
        (pair-at job config c d x y at like)).pair.like
    by_goal x y at false false equal = like
    by_goal x y at true false equal = absurd (cc)
    by_goal x y at false true equal = absurd (cc)

    by_found : Found name (instances_of job c) (instances_of job d)
        → Like job config (start_of def who environment ps (instance_named who c) c ++ c)
        (start_of def who environment qs (instance_named who d) d ++ d)
    by_found (Neither none void) =
        subst₂ (λ o u. Like job config (start_of def who environment ps o c ++ c)
        (start_of def who environment qs u d ++ d)) (sym none) (sym void)
        (by_room none (nat_lt (length (instances_of job c)) max_instances)
        (nat_lt (length (instances_of job d)) max_instances)
        (ap (λ n. nat_lt n max_instances)
        (twins-length (Twin job config c d) (instances_of job c) (instances_of job d) like.twins)))
    by_found (Two x y at left right) =
        subst₂ (λ o u. Like job config (start_of def who environment ps o c ++ c)
        (start_of def who environment qs u d ++ d)) (sym left) (sym right)
        (by_goal x y at (not (is_start (goal x.place c))) (not (is_start (goal y.place d)))
        (ap (λ (l : Life). not (is_start l.goal))
        (at-twins (Twin job config c d) x y (instances_of job c) (instances_of job d) at
        like.twins).bond.alike))

like_start_who : (job : Bytes) (config : Configuration) (c d : Chronicle) (def : JobDef) (o : Option Bytes)
    (environment : Bindings) (ps qs : List ℕ) → def.name ≡ job → contents ps c ≡ contents qs d
    → AreOlder (length c) ps → AreOlder (length d) qs → Like job config c d
    → Like job config (start_who def environment ps (who_called job o) c ++ c)
    (start_who def environment qs (who_called job o) d ++ d)
like_start_who job config c d def None environment ps qs named same older there like = like
like_start_who job config c d def (Some name) environment ps qs named same older there like =
    like_start_of job config c d def name (with_instance (called job name) environment) ps qs named same
    older there like

-- the instance of a name goes by one file
pub own_file-same : (job : Bytes) (config : Configuration) (c d : Chronicle) (name : Bytes) → Like job config c d
    → own_file (called job name) c ≡ own_file (called job name) d
own_file-same job config c d name like =
    by_found (found job config c d name (instances_of job c) (instances_of job d) like.twins)
  where
    by_found : Found name (instances_of job c) (instances_of job d)
        → own_file (called job name) c ≡ own_file (called job name) d
    by_found (Neither none void) = ap (λ o. file_at o c) none ∙ sym (ap (λ o. file_at o d) void)
    by_found (Two x y at left right) =
        let pair = pair-at job config c d x y at like in
        ap (λ o. file_at o c) left ∙ pair.left.2 ∙ ap Some pair.twin.file ∙ sym pair.right.2
        ∙ sym (ap (λ o. file_at o d) right)

-- and starts by one
start_file-same : (job : Bytes) (config : Configuration) (c d : Chronicle) (name : Bytes) → Like job config c d
    → start_file config (called job name) c ≡ start_file (only job config) (called job name) d
start_file-same job config c d name like =
    by_found (found job config c d name (instances_of job c) (instances_of job d) like.twins)
  where
    who : Who
    who = called job name

    by_found : Found name (instances_of job c) (instances_of job d)
        → start_file config who c ≡ start_file (only job config) who d
    by_found (Neither none void) = ap (λ o. start_file_at config who o c) none ∙ named-only job config.jobs
        ∙ sym (ap (λ o. start_file_at (only job config) who o d) void)
    by_found (Two x y at left right) =
        let pair = pair-at job config c d x y at like in
        ap (λ o. start_file_at config who o c) left ∙ pair.left.2 ∙ ap Some pair.twin.file ∙ sym pair.right.2
        ∙ sym (ap (λ o. start_file_at (only job config) who o d) right)

pub start_base-same : (job : Bytes) (config : Configuration) (c d : Chronicle) (name : Bytes) → Like job config c d
    → start_base config (called job name) c ≡ start_base (only job config) (called job name) d
start_base-same job config c d name like = ap (env_by_job config.base) (start_file-same job config c d name like)

start_env-same : (job : Bytes) (config : Configuration) (c d : Chronicle) (o : Option Bytes) (es fs : List Event)
    → es ≡ fs → Like job config c d
    → start_env config (who_called job o) es c ≡ start_env (only job config) (who_called job o) fs d
start_env-same job config c d None es fs same like = refl
start_env-same job config c d (Some name) es fs same like =
    ap₂ events_env (start_base-same job config c d name like) same

-- the `start on` of its file in force is offered an event
pub like_start_offer : (config : Configuration) (def : JobDef) (c d : Chronicle) (p q : ℕ)
    → job_named def.name config.jobs ≡ Some def
    → event_at p c ≡ event_at q d → content p c ≡ content q d
    → Like def.name config c d
    → Like def.name config (start_offer config def p c ++ c) (start_offer (only def.name config) def q d ++ d)
like_start_offer config def c d p q in_force same stands like =
    subst₂ (λ a b. Like def.name config a b)
    (sym (append_assoc (entries_if (holds def.start_on ss) front) (Offered (StartOn def.name) p ∷ []) c))
    (sym (append_assoc (entries_if (holds def.start_on rs) front_there) (Offered (StartOn def.name) q ∷ [])
    d))
    (by_case (holds def.start_on ss) (holds def.start_on rs)
    (holds-same def.start_on ss rs sights))
  where
    job : Bytes
    job = def.name

    offered : Chronicle
    offered = Offered (StartOn job) p ∷ c

    offered_there : Chronicle
    offered_there = Offered (StartOn job) q ∷ d

    next : Like job config offered offered_there
    next = like_offered job config c d p q same stands like

    ss : List Sight
    ss = seen config (StartOn job) offered

    rs : List Sight
    rs = seen (only job config) (StartOn job) offered_there

    ps : List ℕ
    ps = taken def.start_on ss

    qs : List ℕ
    qs = taken def.start_on rs

    fired : Chronicle
    fired = Fired (StartOn job) ps ∷ offered

    fired_there : Chronicle
    fired_there = Fired (StartOn job) qs ∷ offered_there

    front : List Entry
    front = start_by config def ps fired ++ Fired (StartOn job) ps ∷ []

    front_there : List Entry
    front_there = start_by (only job config) def qs fired_there ++ Fired (StartOn job) qs ∷ []

    known-left : AreKnown offered ss
    known-left = seen-known config (StartOn job) offered

    known-right : AreKnown offered_there rs
    known-right = seen-known (only job config) (StartOn job) offered_there

    sights : told def.start_on ss ≡ told def.start_on rs
    sights = subst (λ file. told (start_on_of file) ss ≡ told (start_on_of file) rs) in_force next.starts

    takes : TakesSame offered offered_there ps qs
    takes = takes-same def.start_on ss rs offered offered_there known-left known-right sights

    later : TakesSame fired fired_there ps qs
    later = takes-same def.start_on ss rs fired fired_there
        (known-sights-later (Fired (StartOn job) ps) offered ss known-left)
        (known-sights-later (Fired (StartOn job) qs) offered_there rs known-right) sights

    name : Option Bytes
    name = instance_name def (events_env (env_of_job config job) (events_at ps fired))

    environment : Bindings
    environment = start_env config (who_called job name) (events_at ps fired) fired

    -- what is done there, by this name of the instance
    there : Option Bytes → Chronicle
    there its = start_who def (start_env (only job config) (who_called job its) (events_at qs fired_there) fired_there) qs
        (who_called job its) fired_there ++ fired_there

    environments : events_env (env_of_job config job) (events_at ps fired)
        ≡ events_env (env_of_job (only job config) job) (events_at qs fired_there)
    environments = ap₂ events_env (env-only job config) later.events

    after : Like job config fired fired_there
    after = like_fired job config offered offered_there ps qs takes.contents next

    started : Like job config (start_by config def ps fired ++ fired)
        (start_by (only job config) def qs fired_there ++ fired_there)
    started =
        subst (λ its. Like job config (start_who def environment ps (who_called job name) fired ++ fired) (there its))
        (ap (instance_name def) environments)
        (subst (λ its. Like job config (start_who def environment ps (who_called job name) fired ++ fired)
        (start_who def its qs (who_called job name) fired_there ++ fired_there))
        (start_env-same job config fired fired_there name (events_at ps fired) (events_at qs fired_there) later.events
        after)
        (like_start_who job config fired fired_there def name environment ps qs refl later.contents
        later.older later.older_there after))

    by_case : (b a : Bool) → b ≡ a
        → Like job config (entries_if b front ++ offered) (entries_if a front_there ++ offered_there)
    by_case true true equal =
        subst₂ (λ a b. Like job config a b)
        (sym (append_assoc (start_by config def ps fired) (Fired (StartOn job) ps ∷ []) offered))
        (sym (append_assoc (start_by (only job config) def qs fired_there) (Fired (StartOn job) qs ∷ [])
        offered_there)) started
    by_case false false equal = next
    by_case true false equal = absurd (cc)
    by_case false true equal = absurd (cc)
