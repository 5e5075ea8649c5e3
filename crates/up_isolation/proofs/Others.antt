-- Entries about the job as a whole: its `start on`, instances that come and go, inputs, replies.
use Rattle.std.proofs.Common.{◌≡◌, ℕ, ◌==◌, Bool, true, false, List, [], ◌∷◌, ◌++◌, Option, None, Some}
use Rattle.std.proofs.Common.{length, if◌then◌else◌, bytes_eq, refl, sym, ◌∙◌, ap, ap₂, arith, eq-eqb}
use Rattle.up_expr.specs.Trees.{Tree}
use Rattle.up_expr.specs.Truth.{Sight}
use Rattle.up_model.specs.declared.event.Event.{Event}
use Rattle.up_model.specs.declared.request.Answer.{Answer}
use Rattle.up_model.specs.declared.state.State.TheVariants as state
use Rattle.up_model.specs.Chronicle.{Chronicle, Entry, Offered, Fired, Entered, Replied, StartOn, StopOn}
use Rattle.up_model.specs.Configuration.{Configuration}
use Rattle.up_model.specs.Instances.{Instance, without_instance, instances_of}
use Rattle.up_model.specs.Readings.{entry_at, event_at, holders, env}
use Rattle.up_model.specs.Seen.{seen, sight_of}
use Rattle.up_model.specs.Values.{Bytes, Bindings}
use Rattle.up_model.proofs.Places.{bytes_refl}
use Rattle.up_model.proofs.NameLaws.{entered-singles}
use Rattle.up_isolation.specs.Views.{owns}
use Rattle.up_isolation.specs.Parts as parts
use Rattle.up_isolation.specs.Parts.{contents, content, Item, items, items_if, hears_event}
use Rattle.up_isolation.specs.Parts.{name_at}
use Rattle.up_isolation.proofs.Lives.{Life}
use Rattle.up_isolation.proofs.Lives as lives
use Rattle.up_isolation.proofs.Sights.{told}
use Rattle.up_isolation.proofs.Twins.{Twins, Match}
use Rattle.up_isolation.proofs.Known.{known, contents-later, older-later}
use Rattle.up_isolation.proofs.Likes.{only, Bond, Twin, Like, blank_more, fair_more, told-append}
use Rattle.up_isolation.proofs.Pairs.{Pair, Carries, twin-carried, Shows, pair_more, part_more, deeds_more}
use Rattle.up_isolation.proofs.Pairs.{bond-life, shows-item, items-own, own-true, name-same, known-one}
use Rattle.up_isolation.proofs.Pairs.{twins-own}
use Rattle.up_model.specs.Environments.{env_of_job, env_by_job}
use Rattle.up_isolation.proofs.Pairs.{LeavesAlone, bond-missed}
use Rattle.up_isolation.proofs.Likes.{named-only, start_tree, hears_event-same}

-- those but one, side by side
pub twins-without : (R : Instance → Instance → Type 0) (i j : ℕ) (xs ys : List Instance)
    → Twins (Match i j) xs ys → Twins R xs ys → Twins R (without_instance i xs) (without_instance j ys)
twins-without R i j [] [] match twins = tt
twins-without R i j (x ∷ xs) (y ∷ ys) match twins =
    by_case (x.place == i) (y.place == j) match.0 (twins-without R i j xs ys match.1 twins.1)
  where
    by_case : (b a : Bool) → b ≡ a → Twins R (without_instance i xs) (without_instance j ys)
        → Twins R (if b then without_instance i xs else x ∷ without_instance i xs)
        (if a then without_instance j ys else y ∷ without_instance j ys)
    by_case true true same ih = ih
    by_case false false same ih = (twins.0, ih)
    by_case true false same ih = absurd (cc)
    by_case false true same ih = absurd (cc)
twins-without R i j [] (y ∷ ys) match twins = absurd twins
twins-without R i j (x ∷ xs) [] match twins = absurd twins

-- an instance enters waiting, and is one of the job no more
pub pair_waiting : (job : Bytes) (config : Configuration) (c d : Chronicle) (x y : Instance)
    → Pair job config c d x y
    → Carries job config c d (Entered x.place state.Waiting ∷ c) (Entered y.place state.Waiting ∷ d) x y
pair_waiting job config c d x y pair = record {
  pair = record {
    like = record {
      twins = twins-without (Twin job config (e ∷ c) (f ∷ d)) x.place y.place (instances_of job c)
          (instances_of job d) pair.match
          (twins-own job config e f c d x.file x.place y.place (instances_of job c) (instances_of job d) refl refl
          pair.left.2 bond pair.match (known job c) pair.like.twins);
      starts = pair.like.starts;
      today = pair.like.today;
      blank = blank_more config e c pair.like.blank pair.left.0;
      empty = blank_more (only job config) f d pair.like.empty pair.right.0;
      fair = fair_more job e c pair.like.fair tt;
      singles = entered-singles x.place state.Waiting c pair.like.singles;
      part = part_more job config e f c d shows pair.like.part;
      deeds = deeds_more job config e f c d shows pair.like.deeds;
    };
    twin = record { name = pair.twin.name; file = pair.twin.file; bond = bond };
    left = known-one job e c x pair.left;
    right = known-one job f d y pair.right;
    match = twins-without (Match x.place y.place) x.place y.place (instances_of job c) (instances_of job d)
        pair.match pair.match;
  };
  carries = λ u v same guest. record {
    twin = twin-carried job config e f c d x.file x.place y.place u v refl refl pair.left.2 bond same guest.left
        guest.twin;
    left = known-one job e c u guest.left;
    right = known-one job f d v guest.right;
    match = twins-without (Match u.place v.place) x.place y.place (instances_of job c) (instances_of job d)
        pair.match guest.match;
  };
  shrinks = λ f g twins. twins-without (λ u v. f u ≡ g v) x.place y.place (instances_of job c)
      (instances_of job d) pair.match twins;
}
  where
    e : Entry
    e = Entered x.place state.Waiting

    f : Entry
    f = Entered y.place state.Waiting

    bond : Bond job config (e ∷ c) (f ∷ d) x.file x.place y.place
    bond = bond-life job config e f c d x.file x.place y.place pair.twin.bond
        (lives.entered x.place y.place c d state.Waiting pair.twin.bond.alike) refl refl refl refl

    shows : Shows job config e f c d
    shows =
        shows-item job config e f c d x y (λ name. parts.Entered name state.Waiting) pair refl refl refl refl

-- entries that leave each instance alone
pub twins-left : (job : Bytes) (config : Configuration) (e f : Entry) (c d : Chronicle)
    (xs ys : List Instance) → ((p : ℕ) → LeavesAlone config e c p)
    → ((p : ℕ) → LeavesAlone (only job config) f d p) → Twins (Twin job config c d) xs ys
    → Twins (Twin job config (e ∷ c) (f ∷ d)) xs ys
twins-left job config e f c d [] [] one other twins = tt
twins-left job config e f c d (x ∷ xs) (y ∷ ys) one other twins = (
  record {
    name = twins.0.name;
    file = twins.0.file;
    bond = bond-missed job config e f c d x.file x.place y.place (one x.place)
        (other y.place) twins.0.bond;
  },
  twins-left job config e f c d xs ys one other twins.1,
)
twins-left job config e f c d [] (y ∷ ys) one other twins = twins
twins-left job config e f c d (x ∷ xs) [] one other twins = twins

-- an answer to a request that is the same
pub like_replied : (job : Bytes) (config : Configuration) (c d : Chronicle) (r q : ℕ) (answer : Answer)
    → entry_at r c ≡ entry_at q d → Like job config c d
    → Like job config (Replied r answer ∷ c) (Replied q answer ∷ d)
like_replied job config c d r q answer same like = record {
  twins = twins-left job config e f c d (instances_of job c) (instances_of job d)
      (λ p. record { aside = tt; holders = refl; seen = refl })
      (λ p. record { aside = tt; holders = refl; seen = refl }) like.twins;
  starts = like.starts;
  today = like.today;
  blank = blank_more config e c like.blank tt;
  empty = blank_more (only job config) f d like.empty tt;
  fair = fair_more job e c like.fair tt;
  singles = like.singles;
  part = part_more job config e f c d shows like.part;
  deeds = deeds_more job config e f c d shows like.deeds;
}
  where
    e : Entry
    e = Replied r answer

    f : Entry
    f = Replied q answer

    shows : Shows job config e f c d
    shows = record { notices = refl; items = rw same refl; deeds = rw same refl }

pub pair_replied : (job : Bytes) (config : Configuration) (c d : Chronicle) (x y : Instance) (r q : ℕ)
    (answer : Answer) → entry_at r c ≡ entry_at q d → Pair job config c d x y
    → Carries job config c d (Replied r answer ∷ c) (Replied q answer ∷ d) x y
pair_replied job config c d x y r q answer same pair =
    pair_more job config (Replied r answer) (Replied q answer) c d x y pair tt tt tt tt tt tt tt
    (bond-life job config (Replied r answer) (Replied q answer) c d x.file x.place y.place pair.twin.bond
    pair.twin.bond.alike refl refl refl refl)
    (record { notices = refl; items = rw same refl; deeds = rw same refl })

-- the same sight, told without its place
pub sight-told : (tree : Option Tree) (p q : ℕ) (o u : Option Event) (environment other : Bindings) → o ≡ u
    → environment ≡ other
    → told tree (sight_of p o environment) ≡ told tree (sight_of q u other)
sight-told tree p q o u environment other same alike = rw (same, alike) (by_case u)
  where
    by_case : (u : Option Event) → told tree (sight_of p u other) ≡ told tree (sight_of q u other)
    by_case None = refl
    by_case (Some event) = refl

pub env-only : (job : Bytes) (config : Configuration)
    → env_of_job config job ≡ env_of_job (only job config) job
env-only job config = ap (env_by_job config.base) (named-only job config.jobs)

-- what an offer of an event of the job shows
items-offered : (b a : Bool) (n m : Bool) (one other : Item) → b ≡ a → n ≡ m → one ≡ other
    → (if b then items_if n one else []) ≡ (if a then items_if m other else [])
items-offered b a n m one other is named same = rw (is, named, same) refl

-- the job's `start on` is offered the same event
pub like_offered : (job : Bytes) (config : Configuration) (c d : Chronicle) (p q : ℕ)
    → event_at p c ≡ event_at q d → content p c ≡ content q d → Like job config c d
    → Like job config (Offered (StartOn job) p ∷ c) (Offered (StartOn job) q ∷ d)
like_offered job config c d p q same stands like = record {
  twins = twins-left job config e f c d (instances_of job c) (instances_of job d)
      (λ k. record { aside = tt; holders = refl; seen = refl })
      (λ k. record { aside = tt; holders = refl; seen = refl }) like.twins;
  starts = rw (bytes_refl job)
      (told-append own (seen config (StartOn job) c) (sight_of p (event_at p c) (env_of_job config job))
      ∙ ap₂ (λ (ss rs : List Sight). ss ++ rs) like.starts
      (sight-told own p q (event_at p c) (event_at q d) (env_of_job config job)
      (env_of_job (only job config) job) same (env-only job config))
      ∙ sym (told-append own (seen (only job config) (StartOn job) d)
      (sight_of q (event_at q d) (env_of_job (only job config) job))));
  today = like.today;
  blank = blank_more config e c like.blank tt;
  empty = blank_more (only job config) f d like.empty tt;
  fair = fair_more job e c like.fair tt;
  singles = like.singles;
  part = part_more job config e f c d shows like.part;
  deeds = deeds_more job config e f c d shows like.deeds;
}
  where
    own : Option Tree
    own = start_tree job config

    e : Entry
    e = Offered (StartOn job) p

    f : Entry
    f = Offered (StartOn job) q

    shows : Shows job config e f c d
    shows = record {
      notices = refl;
      items = items-offered (bytes_eq job job) (bytes_eq job job) (hears_event job config (event_at p c) c)
          (hears_event job (only job config) (event_at q d) d)
          (parts.Offered parts.StartOn (content p c)) (parts.Offered parts.StartOn (content q d)) refl
          (hears_event-same job config c d (event_at p c) (event_at q d) same like)
          (ap (λ its. parts.Offered parts.StartOn its) stands);
      deeds = refl;
    }

-- and fires by the same
pub like_fired : (job : Bytes) (config : Configuration) (c d : Chronicle) (ps qs : List ℕ)
    → contents ps c ≡ contents qs d → Like job config c d
    → Like job config (Fired (StartOn job) ps ∷ c) (Fired (StartOn job) qs ∷ d)
like_fired job config c d ps qs same like = record {
  twins = twins-left job config e f c d (instances_of job c) (instances_of job d)
      (λ k. record { aside = tt; holders = refl; seen = refl })
      (λ k. record { aside = tt; holders = refl; seen = refl }) like.twins;
  starts = rw (bytes_refl job) refl;
  today = like.today;
  blank = blank_more config e c like.blank tt;
  empty = blank_more (only job config) f d like.empty tt;
  fair = fair_more job e c like.fair tt;
  singles = like.singles;
  part = part_more job config e f c d shows like.part;
  deeds = deeds_more job config e f c d shows like.deeds;
}
  where
    e : Entry
    e = Fired (StartOn job) ps

    f : Entry
    f = Fired (StartOn job) qs

    shows : Shows job config e f c d
    shows = record {
      notices = refl;
      items = ap
          (λ its. items_if (bytes_eq job job) (parts.Fired parts.StartOn its)) same;
      deeds = refl;
    }

-- an instance's `stop on` is offered the same event
pub pair_offered : (job : Bytes) (config : Configuration) (c d : Chronicle) (x y : Instance) (p q : ℕ)
    → event_at p c ≡ event_at q d → content p c ≡ content q d → Pair job config c d x y
    → Carries job config c d (Offered (StopOn x.place) p ∷ c) (Offered (StopOn y.place) q ∷ d) x y
pair_offered job config c d x y p q same stands pair =
    pair_more job config e f c d x y pair refl refl tt tt pair.left.0 pair.right.0 tt
    (record {
      alike = pair.twin.bond.alike;
      held = contents-later (holders x.place c) e c pair.twin.bond.older ∙ pair.twin.bond.held
          ∙ sym (contents-later (holders y.place d) f d pair.twin.bond.older_there);
      older = older-later (length c) (length (e ∷ c)) (holders x.place c) (omega arith) pair.twin.bond.older;
      older_there = older-later (length d) (length (f ∷ d)) (holders y.place d) (omega arith)
          pair.twin.bond.older_there;
      sights = rw (eq-eqb x.place x.place refl, eq-eqb y.place y.place refl)
          (told-append own (seen config (StopOn x.place) c) (sight_of p (event_at p c) (env x.place c))
          ∙ ap₂ (λ (ss rs : List Sight). ss ++ rs) pair.twin.bond.sights
          (sight-told own p q (event_at p c) (event_at q d) (env x.place c) (env y.place d) same
          (ap (λ (l : Life). l.env) pair.twin.bond.alike))
          ∙ sym (told-append own (seen (only job config) (StopOn y.place) d)
          (sight_of q (event_at q d) (env y.place d))));
    })
    (record {
      notices = refl;
      items = items-offered (owns job x.place c) (owns job y.place d) (hears_event job config (event_at p c) c)
          (hears_event job (only job config) (event_at q d) d)
          (parts.Offered (parts.StopOn (name_at x.place c)) (content p c))
          (parts.Offered (parts.StopOn (name_at y.place d)) (content q d))
          (own-true job c x pair.left ∙ sym (own-true job d y pair.right))
          (hears_event-same job config c d (event_at p c) (event_at q d) same pair.like)
          (ap₂ (λ name its. parts.Offered (parts.StopOn name) its) (name-same job config c d x y pair)
          stands);
      deeds = refl;
    })
  where
    own : Option Tree
    own = x.file.stop_on

    e : Entry
    e = Offered (StopOn x.place) p

    f : Entry
    f = Offered (StopOn y.place) q

-- and fires by the same
pub pair_fired : (job : Bytes) (config : Configuration) (c d : Chronicle) (x y : Instance) (ps qs : List ℕ)
    → contents ps c ≡ contents qs d → Pair job config c d x y
    → Carries job config c d (Fired (StopOn x.place) ps ∷ c) (Fired (StopOn y.place) qs ∷ d) x y
pair_fired job config c d x y ps qs same pair =
    pair_more job config e f c d x y pair refl refl tt tt tt tt tt
    (record {
      alike = pair.twin.bond.alike;
      held = contents-later (holders x.place c) e c pair.twin.bond.older ∙ pair.twin.bond.held
          ∙ sym (contents-later (holders y.place d) f d pair.twin.bond.older_there);
      older = older-later (length c) (length (e ∷ c)) (holders x.place c) (omega arith) pair.twin.bond.older;
      older_there = older-later (length d) (length (f ∷ d)) (holders y.place d) (omega arith)
          pair.twin.bond.older_there;
      sights = rw (eq-eqb x.place x.place refl, eq-eqb y.place y.place refl) refl;
    })
    (record {
      notices = refl;
      items = items-own (owns job x.place c) (owns job y.place d)
          (parts.Fired (parts.StopOn (name_at x.place c)) (contents ps c))
          (parts.Fired (parts.StopOn (name_at y.place d)) (contents qs d))
          (own-true job c x pair.left) (own-true job d y pair.right)
          (ap₂ (λ name its. parts.Fired (parts.StopOn name) its) (name-same job config c d x y pair) same);
      deeds = refl;
    })
  where
    e : Entry
    e = Fired (StopOn x.place) ps

    f : Entry
    f = Fired (StopOn y.place) qs
