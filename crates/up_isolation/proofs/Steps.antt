-- Entries with which a step begins, and new instances.
use Rattle.std.proofs.Common.{◌≡◌, ℕ, ◌<◌, ◌==◌, Bool, true, false, ◌&&◌, List, [], ◌∷◌, Option, None, Some}
use Rattle.std.proofs.Common.{is_some, length, if◌then◌else◌, refl, sym, ◌∙◌, ap, arith, eq-eqb}
use Rattle.std.proofs.Common.{eqb-true, append-nil}
use Rattle.std.specs.List.{AllByRecursion}
use Rattle.up_conf.specs.declared.job.JobDef.{JobDef}
use Rattle.up_model.specs.declared.event.Event.{Event}
use Rattle.up_model.specs.Chronicle.{Chronicle, Entry, Given, Queued, Handled, Finished, Entering, Outside}
use Rattle.up_model.specs.Clock.{now}
use Rattle.up_model.specs.Configuration.{Configuration}
use Rattle.up_model.specs.Instances.{Instance, instances_of}
use Rattle.up_model.specs.Readings.{entry_at, event_at, holders}
use Rattle.up_model.specs.Values.{Bytes}
use Rattle.up_model.proofs.NameLaws.{called}
use Rattle.up_isolation.specs.Views.{deeds}
use Rattle.up_isolation.proofs.Lives.{life}
use Rattle.up_isolation.proofs.Lives as lives
use Rattle.up_isolation.proofs.Sights.{told}
use Rattle.up_isolation.proofs.Twins.{Twins, Match}
use Rattle.up_isolation.proofs.Known.{IsKnown}
use Rattle.up_isolation.proofs.Likes.{only, Bond, Twin, Like, arrivals-same, blank_more, fair_more}
use Rattle.up_isolation.proofs.Pairs.{Pair, Shows, part_more, deeds_more, bond-life}
use Rattle.std.proofs.Common.{nat_lt}
use Rattle.up_model.specs.declared.input.Input.{Input}
use Rattle.up_model.specs.declared.input.Input.TheVariants as input
use Rattle.up_model.specs.Readings.{blocker, without, is_blocking}
use Rattle.up_isolation.specs.Views.{is_blocked_by, unblocked}
use Rattle.up_isolation.proofs.Known.{known, entry-later}
use Rattle.up_isolation.proofs.Pairs.{LeavesAlone, held-later, grown}
use Rattle.up_isolation.proofs.Others.{twins-left}
use Rattle.up_isolation.proofs.Steady.{part}

-- an input that concerns the job
twins-given : (job : Bytes) (config : Configuration) (given : Input) (c d : Chronicle) (xs ys : List Instance)
    → AllByRecursion (IsKnown job c) xs → AllByRecursion (IsKnown job d) ys
    → Twins (Twin job config c d) xs ys → Twins (Twin job config (Given given ∷ c) (Given given ∷ d)) xs ys
twins-given job config given c d [] [] known knowns twins = tt
twins-given job config given c d (x ∷ xs) (y ∷ ys) known knowns twins = (
  record {
    name = twins.0.name;
    file = twins.0.file;
    bond = bond-life job config (Given given) (Given given) c d x.file x.place y.place twins.0.bond
        (lives.given x.place y.place c d given (known.0.1 ∙ ap (λ name. Some (called job name)) twins.0.name
        ∙ sym knowns.0.1) twins.0.bond.alike) refl refl refl refl;
  },
  twins-given job config given c d xs ys known.1 knowns.1 twins.1,
)
twins-given job config given c d [] (y ∷ ys) known knowns twins = twins
twins-given job config given c d (x ∷ xs) [] known knowns twins = twins

today-given : (given : Input) (c d : Chronicle) → now c ≡ now d
    → now (Given given ∷ c) ≡ now (Given given ∷ d)
today-given (input.Clock reading) c d same = ap (λ n. if nat_lt n reading then reading else n) same
today-given given c d same = same

pub like_given : (job : Bytes) (config : Configuration) (given : Input) (c d : Chronicle)
    → Like job config c d → Like job config (Given given ∷ c) (Given given ∷ d)
like_given job config given c d like = record {
  twins = twins-given job config given c d (instances_of job c) (instances_of job d) (known job c)
      (known job d) like.twins;
  starts = like.starts;
  today = today-given given c d like.today;
  blank = blank_more config (Given given) c like.blank tt;
  empty = blank_more (only job config) (Given given) d like.empty tt;
  fair = fair_more job (Given given) c like.fair tt;
  singles = like.singles;
  part = part_more job config (Given given) (Given given) c d
      (record { notices = refl; items = refl; deeds = refl }) like.part;
  deeds = deeds_more job config (Given given) (Given given) c d
      (record { notices = refl; items = refl; deeds = refl }) like.deeds;
}

-- an entry of the job's own chronicle that shows nothing
bond-right : (job : Bytes) (config : Configuration) (f : Entry) (c d : Chronicle) (file : JobDef) (i j : ℕ)
    → LeavesAlone (only job config) f d j → Bond job config c d file i j → Bond job config c (f ∷ d) file i j
bond-right job config f c d file i j other bond = record {
  alike = bond.alike ∙ sym (lives.aside j f d other.aside);
  held = bond.held ∙ sym (held-later (holders j d) (holders j (f ∷ d)) f d other.holders bond.older_there);
  older = bond.older;
  older_there = grown (holders j d) (holders j (f ∷ d)) f d other.holders bond.older_there;
  sights = bond.sights ∙ sym (ap (told file.stop_on) other.seen);
}

twins-right : (job : Bytes) (config : Configuration) (f : Entry) (c d : Chronicle) (xs ys : List Instance)
    → ((p : ℕ) → LeavesAlone (only job config) f d p)
    → Twins (Twin job config c d) xs ys → Twins (Twin job config c (f ∷ d)) xs ys
twins-right job config f c d [] [] other twins = tt
twins-right job config f c d (x ∷ xs) (y ∷ ys) other twins = (
  record {
    name = twins.0.name;
    file = twins.0.file;
    bond = bond-right job config f c d x.file x.place y.place (other y.place)
        twins.0.bond;
  },
  twins-right job config f c d xs ys other twins.1,
)
twins-right job config f c d [] (y ∷ ys) other twins = twins
twins-right job config f c d (x ∷ xs) [] other twins = twins

pub like_turn : (job : Bytes) (config : Configuration) (c d : Chronicle) → Like job config c d
    → Like job config c (Given input.Turn ∷ d)
unfolding part deeds
like_turn job config c d like = record {
  twins = twins-right job config (Given input.Turn) c d (instances_of job c) (instances_of job d)
      (λ p. record { aside = tt; holders = refl; seen = refl }) like.twins;
  starts = like.starts;
  today = like.today;
  blank = like.blank;
  empty = blank_more (only job config) (Given input.Turn) d like.empty tt;
  fair = like.fair;
  singles = like.singles;
  part = like.part;
  deeds = like.deeds ∙ sym (append-nil (deeds job d));
}

pub like_queued : (job : Bytes) (config : Configuration) (c d : Chronicle) (given : ℕ) (event : Event)
    → Like job config c d → Like job config c (Queued (Outside given) event ∷ d)
unfolding part deeds
like_queued job config c d given event like = record {
  twins = twins-right job config (Queued (Outside given) event) c d (instances_of job c) (instances_of job d)
      (λ p. record { aside = tt; holders = refl; seen = refl }) like.twins;
  starts = like.starts;
  today = like.today;
  blank = like.blank;
  empty = blank_more (only job config) (Queued (Outside given) event) d like.empty tt;
  fair = like.fair;
  singles = like.singles;
  part = like.part;
  deeds = like.deeds ∙ sym (append-nil (deeds job d));
}

-- an event is taken up
pub like_handled : (job : Bytes) (config : Configuration) (c d : Chronicle) (p q : ℕ)
    → event_at p c ≡ event_at q d → Like job config c d
    → Like job config (Handled p ∷ c) (Handled q ∷ d)
like_handled job config c d p q same like = record {
  twins = twins-left job config (Handled p) (Handled q) c d (instances_of job c) (instances_of job d)
      (λ k. record { aside = tt; holders = refl; seen = refl })
      (λ k. record { aside = tt; holders = refl; seen = refl }) like.twins;
  starts = like.starts;
  today = like.today;
  blank = blank_more config (Handled p) c like.blank tt;
  empty = blank_more (only job config) (Handled q) d like.empty tt;
  fair = fair_more job (Handled p) c like.fair tt;
  singles = like.singles;
  part = part_more job config (Handled p) (Handled q) c d shows like.part;
  deeds = deeds_more job config (Handled p) (Handled q) c d shows like.deeds;
}
  where
    shows : Shows job config (Handled p) (Handled q) c d
    shows = record {
      notices = arrivals-same job config c d (event_at p c) (event_at q d) same like;
      items = refl;
      deeds = refl;
    }

-- the event that an instance waits for is one that this instance emitted
origin-of : Entry → Option ℕ
origin-of (Queued (Entering i to) event) = Some i
origin-of e = None

abbrev pub emitter : Option Entry → Option ℕ
emitter (Some (Queued (Entering i to) event)) = Some i
emitter other = None

pub blocker-own : (i p : ℕ) (c : Chronicle) → blocker i c ≡ Some p
    → (p < length c) × (emitter (entry_at p c) ≡ Some i)
blocker-own i p [] some = absurd (cc)
blocker-own i p (Queued (Entering other to) event ∷ c) some =
    by_case ((other == i) && is_blocking to) refl some (blocker-own i p c)
  where
    is-own : (b a : Bool) → (other == i) ≡ b → (b && a) ≡ true → other ≡ i
    is-own true a same both = eqb-true other i same
    is-own false a same both = absurd (cc)

    by_case : (b : Bool) → ((other == i) && is_blocking to) ≡ b
        → (if b then Some (length c) else blocker i c) ≡ Some p
        → (blocker i c ≡ Some p → (p < length c) × (emitter (entry_at p c) ≡ Some i))
        → (p < length (Queued (Entering other to) event ∷ c))
        × (emitter (entry_at p (Queued (Entering other to) event ∷ c)) ≡ Some i)
    by_case true is some ih =
        let here : length c ≡ p = cc in (
          omega arith,
          rw (eq-eqb (length c) p here)
              (ap (λ k. Some k) (is-own (other == i) (is_blocking to) refl is)),
        )
    by_case false is some ih =
        let h = ih some in
        (omega (arith, h.0), ap emitter (entry-later p (Queued (Entering other to) event) c h.0) ∙ h.1)
blocker-own i p (Finished event ∷ c) some = by_case (blocker i c) refl some (blocker-own i p c)
  where
    by_test : (b : Bool) (k : ℕ) → blocker i c ≡ Some k → (if b then None else Some k) ≡ Some p
        → blocker i c ≡ Some p
    by_test true k is some = absurd (cc)
    by_test false k is some = is ∙ some

    by_case : (o : Option ℕ) → blocker i c ≡ o → without event o ≡ Some p
        → (blocker i c ≡ Some p → (p < length c) × (emitter (entry_at p c) ≡ Some i))
        → (p < length (Finished event ∷ c)) × (emitter (entry_at p (Finished event ∷ c)) ≡ Some i)
    by_case None is some ih = absurd (cc)
    by_case (Some k) is some ih =
        let h = ih (by_test (k == event) k is some) in
        (omega (arith, h.0), ap emitter (entry-later p (Finished event) c h.0) ∙ h.1)
blocker-own i p (e ∷ c) some =
    let h = blocker-own i p c some in
    (omega (arith, h.0), ap emitter (entry-later p e c h.0) ∙ h.1)

-- so it is the only one that waits for it
pub waits-own : (i k p : ℕ) (c : Chronicle) → blocker i c ≡ Some p → is_blocked_by p (blocker k c) ≡ (k == i)
waits-own i k p c is = by_case (k == i) refl (blocker k c) refl
  where
    by_test : (other : ℕ) → blocker k c ≡ Some other → (k == i) ≡ false → (b : Bool) → (other == p) ≡ b
        → b ≡ false
    by_test other are apart true same =
        let mine = (blocker-own i p c is).1 in
        let its = (blocker-own k p c (are ∙ ap (λ q. Some q) (eqb-true other p same))).1 in
        let one : k ≡ i = cc in
        let yes = eq-eqb k i one in
        absurd (cc)
    by_test other are apart false same = refl

    by_case : (b : Bool) → (k == i) ≡ b → (o : Option ℕ) → blocker k c ≡ o → is_blocked_by p o ≡ b
    by_case true same o are =
        let it : o ≡ Some p = sym are ∙ ap (λ q. blocker q c) (eqb-true k i same) ∙ is in
        ap (is_blocked_by p) it ∙ eq-eqb p p refl
    by_case false apart None are = refl
    by_case false apart (Some other) are = by_test other are apart (other == p) refl

unblocked-none : (p : ℕ) (o : Option ℕ) → is_blocked_by p o ≡ true → is_some (without p o) ≡ false
unblocked-none p None h = absurd (cc)
unblocked-none p (Some other) h = rw h refl

not-freed : (p : ℕ) (o : Option ℕ) → is_blocked_by p o ≡ false → is_some (without p o) ≡ is_some o
not-freed p None h = refl
not-freed p (Some other) h = rw h refl

twins-freed : (job : Bytes) (config : Configuration) (p q : ℕ) (c d : Chronicle) (i j : ℕ)
    (xs ys : List Instance) → ((k : ℕ) → is_blocked_by p (blocker k c) ≡ (k == i))
    → ((k : ℕ) → is_blocked_by q (blocker k d) ≡ (k == j)) → Twins (Match i j) xs ys
    → Twins (Twin job config c d) xs ys
    → Twins (Twin job config (Finished p ∷ c) (Finished q ∷ d)) xs ys
twins-freed job config p q c d i j [] [] one other match twins = tt
twins-freed job config p q c d i j (x ∷ xs) (y ∷ ys) one other match twins = (
  record {
    name = twins.0.name;
    file = twins.0.file;
    bond = bond-life job config (Finished p) (Finished q) c d x.file x.place y.place twins.0.bond
        (by_case (is_blocked_by p (blocker x.place c)) (is_blocked_by q (blocker y.place d)) refl refl
        (one x.place ∙ match.0 ∙ sym (other y.place))) refl refl refl refl;
  },
  twins-freed job config p q c d i j xs ys one other match.1 twins.1,
)
  where
    by_case : (b a : Bool) → is_blocked_by p (blocker x.place c) ≡ b → is_blocked_by q (blocker y.place d) ≡ a
        → is_blocked_by p (blocker x.place c) ≡ is_blocked_by q (blocker y.place d)
        → life x.place (Finished p ∷ c) ≡ life y.place (Finished q ∷ d)
    by_case true true is are same =
        lives.unblocked x.place y.place p q c d (unblocked-none p (blocker x.place c) is)
        (unblocked-none q (blocker y.place d) are) twins.0.bond.alike
    by_case false false is are same =
        lives.aside x.place (Finished p) c (not-freed p (blocker x.place c) is) ∙ twins.0.bond.alike
        ∙ sym (lives.aside y.place (Finished q) d (not-freed q (blocker y.place d) are))
    by_case true false is are same = absurd (cc)
    by_case false true is are same = absurd (cc)
twins-freed job config p q c d i j [] (y ∷ ys) one other match twins = twins
twins-freed job config p q c d i j (x ∷ xs) [] one other match twins = twins

unblocked-same : (job : Bytes) (config : Configuration) (p q : ℕ) (c d : Chronicle) (i j : ℕ)
    (xs ys : List Instance) → ((k : ℕ) → is_blocked_by p (blocker k c) ≡ (k == i))
    → ((k : ℕ) → is_blocked_by q (blocker k d) ≡ (k == j)) → Twins (Match i j) xs ys
    → Twins (Twin job config c d) xs ys → unblocked p xs c ≡ unblocked q ys d
unblocked-same job config p q c d i j [] [] one other match twins = refl
unblocked-same job config p q c d i j (x ∷ xs) (y ∷ ys) one other match twins =
    rw (
      one x.place ∙ match.0 ∙ sym (other y.place),
      twins.0.name,
      unblocked-same job config p q c d i j xs ys
          one other match.1 twins.1,
    ) refl
unblocked-same job config p q c d i j [] (y ∷ ys) one other match twins = absurd twins
unblocked-same job config p q c d i j (x ∷ xs) [] one other match twins = absurd twins

-- an instance's own event finishes
pub like_finished : (job : Bytes) (config : Configuration) (c d : Chronicle) (x y : Instance) (p q : ℕ)
    → blocker x.place c ≡ Some p → blocker y.place d ≡ Some q → Pair job config c d x y
    → Like job config (Finished p ∷ c) (Finished q ∷ d)
like_finished job config c d x y p q is are pair = record {
  twins = twins-freed job config p q c d x.place y.place (instances_of job c) (instances_of job d)
      (λ k. waits-own x.place k p c is) (λ k. waits-own y.place k q d are) pair.match pair.like.twins;
  starts = pair.like.starts;
  today = pair.like.today;
  blank = blank_more config (Finished p) c pair.like.blank tt;
  empty = blank_more (only job config) (Finished q) d pair.like.empty tt;
  fair = fair_more job (Finished p) c pair.like.fair tt;
  singles = pair.like.singles;
  part = part_more job config (Finished p) (Finished q) c d shows pair.like.part;
  deeds = deeds_more job config (Finished p) (Finished q) c d shows pair.like.deeds;
}
  where
    shows : Shows job config (Finished p) (Finished q) c d
    shows = record {
      notices = unblocked-same job config p q c d x.place y.place (instances_of job c) (instances_of job d)
          (λ k. waits-own x.place k p c is) (λ k. waits-own y.place k q d are) pair.match pair.like.twins;
      items = refl;
      deeds = refl;
    }
