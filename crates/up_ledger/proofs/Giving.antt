-- Inputs.
use Rattle.std.proofs.Common.{◌≡◌, ℕ, ◌∷◌, length, Option, None, Some, option_map, if◌then◌else◌, nat_lt, refl, sym, ◌∙◌, ap}
use Rattle.up_job.specs.Changes.{changed}
use Rattle.up_job.specs.JobLists.{changed_at}
use Rattle.up_model.specs.declared.loaded.Loaded.{Loaded}
use Rattle.up_model.specs.declared.input.Input.{Input}
use Rattle.up_model.specs.declared.input.Input.TheVariants as input
use Rattle.up_model.specs.declared.who.Who.{Who}
use Rattle.up_model.specs.Chronicle.{Chronicle, Given}
use Rattle.up_model.specs.Clock as clock
use Rattle.up_model.specs.Configuration.{Configuration}
use Rattle.up_model.specs.Instances.{instance_named}
use Rattle.up_model.specs.Queue.{queue}
use Rattle.up_ledger.proofs.Regulars.{regular-next}
use Rattle.up_ledger.specs.declared.past.Past.{Past}
use Rattle.up_job.specs.declared.instance_key.InstanceKey.{InstanceKey}
use Rattle.up_job.specs.declared.instance.Instance.{Instance as Kept}
use Rattle.up_ledger.specs.Counting.{uses}
use Rattle.up_book.specs.Keys as keys
use Rattle.up_model.specs.Requests.{RequestValue}
use Rattle.up_model.specs.declared.event.Event.{Event}
use Rattle.up_ledger.specs.Eventing.{place_of}
use Rattle.up_ledger.specs.Standing.{Forgets, instance_place}
use Rattle.up_ledger.proofs.Answering.{Names, change_of, keeps-given, keeps-unnamed}
use Rattle.up_ledger.proofs.Standing.{age-all, standings-later}
use Rattle.up_ledger.proofs.Starting.{same-trigger}
use Rattle.up_ledger.proofs.Triggers.{remembered-later, remembered-changed}
use Rattle.up_ledger.proofs.Whole.{Passes, passing, unseen, keeps-past, forgets-lives, forgets-passing, uses-same}
use Rattle.up_model.proofs.QueueLaws.{queue_by_age}

pub forgets-load : (book : Past) (config : Configuration) (c : Chronicle) (id : ℕ) (its : Loaded) → Forgets book config c → Forgets book config (Given (input.Load id its) ∷ c)
forgets-load book config c id its f =
    forgets-passing book config c (Given (input.Load id its)) f (passing config c (Given (input.Load id its)) (λ i. refl) (λ job. refl) (λ x. refl)) tt refl tt (λ p. refl) refl

pub forgets-turn : (book : Past) (config : Configuration) (c : Chronicle) → Forgets book config c → Forgets book config (Given input.Turn ∷ c)
forgets-turn book config c f = forgets-passing book config c (Given input.Turn) f (passing config c (Given input.Turn) (λ i. refl) (λ job. refl) (λ x. refl)) tt refl tt (λ p. refl) refl

pub forgets-emit : (book : Past) (config : Configuration) (c : Chronicle) (event : Event) → Forgets book config c → Forgets book config (Given (input.Emit event) ∷ c)
forgets-emit book config c event f = forgets-passing book config c (Given (input.Emit event)) f (passing config c (Given (input.Emit event)) (λ i. refl) (λ job. refl) (λ x. refl)) tt refl tt (λ p. refl) refl

pub forgets-request : (book : Past) (config : Configuration) (c : Chronicle) (id : ℕ) (request : RequestValue) → Forgets book config c → Forgets book config (Given (input.Request id request) ∷ c)
forgets-request book config c id request f =
    forgets-passing book config c (Given (input.Request id request)) f (passing config c (Given (input.Request id request)) (λ i. refl) (λ job. refl) (λ x. refl)) tt refl tt (λ p. refl) refl

pub forgets-clock : (book after : Past) (config : Configuration) (c : Chronicle) (reading : ℕ) → Forgets book config c → after.instances ≡ book.instances → after.starts ≡ book.starts → after.events ≡ book.events
    → after.reading ≡ (if nat_lt book.reading reading then reading else book.reading) → Forgets after config (Given (input.Clock reading) ∷ c)
forgets-clock book after config c reading f lives starts events later =
    let passes : Passes config c (Given (input.Clock reading)) = passing config c (Given (input.Clock reading)) (λ i. refl) (λ job. refl) (λ x. refl) in
    let places = place_of book.events (queue c) in
    let kept = keeps-past places book.instances config c (Given (input.Clock reading)) f.lives passes tt in
    let remembered = remembered-later places book.instances book.starts.items config c (Given (input.Clock reading)) (unseen config c (Given (input.Clock reading)) passes) f.remembered in
    let same = standings-later (Given (input.Clock reading)) c (queue c) f.regular.origins (age-all (queue c) (length c) (queue_by_age c)) (λ p. refl) in
    record {
      lives = rw (events, lives) kept;
      remembered = rw (events, lives, starts) remembered;
      standings = rw events (f.standings ∙ sym same);
      counted = λ id. rw (events, lives, starts) (f.counted id);
      regular = regular-next config c (Given (input.Clock reading)) f.regular tt;
      reading = later ∙ ap (λ n. if nat_lt n reading then reading else n) f.reading;
    }

-- an answer for a process, or its end
pub forgets-given : (book after : Past) (config : Configuration) (c : Chronicle) (key : InstanceKey) (i : ℕ) (given : Input) (who : Who) → Forgets book config c → instance_place book c key ≡ Some i
    → Names given who → instance_named who c ≡ Some i → clock.now (Given given ∷ c) ≡ clock.now c → ((k : Kept) → (changed (change_of given) k).holders ≡ k.holders)
    → after.instances ≡ changed_at key (changed (change_of given)) book.instances → after.starts ≡ book.starts → after.events ≡ book.events → after.reading ≡ book.reading → Forgets after config (Given given ∷ c)
forgets-given book after config c key i given who f found says named clock_same holders does starts events reading =
    let places = place_of book.events (queue c) in
    forgets-lives book after config c (Given given) f (keeps-given places book.instances after.instances config c key i given who f.lives f.regular.singles found says named does)
    (rw does (remembered-changed places (changed (change_of given)) key book.instances book.starts.items config (Given given ∷ c) (same-trigger (change_of given))
    (remembered-later places book.instances book.starts.items config c (Given given) (record { instances = λ job. refl; seen = λ x. refl }) f.remembered))) refl tt (λ p. refl) clock_same
    (λ id. ap (uses id) does ∙ uses-same id (changed (change_of given)) (same-trigger (change_of given)) holders key book.instances) starts events reading

-- an input that names no instance that exists
pub forgets-unnamed : (book : Past) (config : Configuration) (c : Chronicle) (given : Input) (who : Who) → Forgets book config c → Names given who → instance_named who c ≡ None → clock.now (Given given ∷ c) ≡ clock.now c
    → Forgets book config (Given given ∷ c)
forgets-unnamed book config c given who f says none clock_same =
    let places = place_of book.events (queue c) in
    forgets-lives book book config c (Given given) f (keeps-unnamed places book.instances config c given who f.lives f.regular.singles says none)
    (remembered-later places book.instances book.starts.items config c (Given given) (record { instances = λ job. refl; seen = λ x. refl }) f.remembered) refl tt (λ p. refl) clock_same (λ id. refl) refl refl refl

-- whom an input speaks of by a key, or by none
pub speaks-some : (config : Configuration) (c : Chronicle) (key : InstanceKey) (who : Who) → option_map (keys.instance_place config c) (Some key) ≡ option_map Some (instance_named who c)
    → (i : ℕ) × (keys.instance_place config c key ≡ Some i) × (instance_named who c ≡ Some i)
speaks-some config c key who speaks = by_case (instance_named who c) refl speaks
  where
    by_case : (its : Option ℕ) → instance_named who c ≡ its → Some (keys.instance_place config c key) ≡ option_map Some its → (i : ℕ) × (keys.instance_place config c key ≡ Some i) × (instance_named who c ≡ Some i)
    by_case None is speaks = absurd cc
    by_case (Some i) is speaks = (i, cc, is)

pub speaks-none : (config : Configuration) (c : Chronicle) (who : Who) → option_map (keys.instance_place config c) None ≡ option_map Some (instance_named who c) → instance_named who c ≡ None
speaks-none config c who speaks = by_case (instance_named who c) speaks
  where
    by_case : (its : Option ℕ) → option_map (keys.instance_place config c) None ≡ option_map Some its → its ≡ None
    by_case None speaks = refl
    by_case (Some i) speaks = absurd cc
