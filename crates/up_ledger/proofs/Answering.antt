-- What is kept after the answer for a process, or its end.
use Rattle.std.proofs.Common.{◌≡◌, ℕ, ◌≤◌, ◌==◌, ◌&&◌, Bool, true, false, List, [], ◌∷◌, length, map, None, Some, bytes_eq, refl, sym, ◌∙◌, ap, subst, arith, ne_eqb}
use Rattle.up_job.specs.Changes.{changed}
use Rattle.up_job.specs.JobLists.{changed_at}
use Rattle.std.proofs.lemmas.Bool.{eqb-false}
use Rattle.std.specs.List.{AllByRecursion}
use Rattle.up_conf.specs.declared.job.JobDef.{JobDef}
use Rattle.up_stanza.specs.declared.process.Process.{Process}
use Rattle.up_stanza.specs.declared.process.Process.TheVariants as process
use Rattle.up_model.specs.declared.input.Input.{Input}
use Rattle.up_model.specs.declared.input.Input.TheVariants as input
use Rattle.up_model.specs.declared.who.Who.{Who}
use Rattle.up_model.specs.Chronicle.{Chronicle, Given}
use Rattle.up_model.specs.Configuration.{Configuration}
use Rattle.up_model.specs.Instances.{Instance, instances_of, place_named, instance_named}
use Rattle.up_model.specs.Predicates.{same_who, same_process}
use Rattle.up_model.specs.Readings.{entry_at, made_at, speaks_of, holders}
use Rattle.up_model.specs.Values.{Bytes}
use Rattle.up_model.proofs.NameLaws.{made-named, AreSingle, Singles}
use Rattle.up_model.proofs.Places.{bytes_same, bytes_refl}
use Rattle.up_job.specs.declared.change.Change.{Change}
use Rattle.up_job.specs.declared.change.Change.TheVariants as change
use Rattle.up_job.specs.declared.instance_key.InstanceKey.{InstanceKey}
use Rattle.up_job.specs.declared.instances.JobInstances.{JobInstances}
use Rattle.up_book.specs.Keeps.{Keeps, HoldsOlder, place_at}
use Rattle.up_ledger.specs.Stepping.{stepped}
use Rattle.up_book.specs.Summaries.{Summary, summary, job_summary}
use Rattle.up_book.proofs.Lists.{cons_same}
use Rattle.up_book.specs.Views.{Places}
use Rattle.up_ledger.proofs.Entering.{older-after}
use Rattle.up_ledger.proofs.Frames.{holding-later}
use Rattle.up_book.proofs.One.{Touches, one, called, IsKnown, known-all}
use Rattle.up_ledger.proofs.Steps.{view-changed}

-- another instance isn't the one that an input names
one-named : (job : Bytes) (who : Who) (i : ℕ) (c : Chronicle) (x : Instance) → instance_named who c ≡ Some i → place_named x.name (instances_of job c) ≡ Some x.place → (x.place == i) ≡ false → same_who who (called job x.name) ≡ false
one-named job who i c x named single apart = by_case (bytes_eq who.job job) (bytes_eq who.instance x.name) refl refl
  where
    by_case : (b d : Bool) → bytes_eq who.job job ≡ b → bytes_eq who.instance x.name ≡ d → (b && d) ≡ false
    by_case true true same its =
        let here : instance_named who c ≡ Some x.place = ap (λ name. place_named name (instances_of who.job c)) (bytes_same who.instance x.name its) ∙ ap (λ name. place_named x.name (instances_of name c)) (bytes_same who.job job same) ∙ single in
        let both : Some x.place ≡ Some i = sym here ∙ named in
        let place : x.place ≡ i = cc in
        absurd (eqb-false x.place i apart place)
    by_case true false same its = refl
    by_case false d same its = refl

-- whom an input of a process names
abbrev pub Names : Input → Who → Type 0
Names (input.Spawned named its pid) who = named ≡ who
Names (input.Refused named its) who = named ≡ who
Names (input.Ended named its how) who = named ≡ who
Names other who = ⊥

abbrev Unspoken : Who → Chronicle → Instance → Type 0
Unspoken who c x = (its p : Process) → speaks_of (made_at x.place c) p who its ≡ false

unspoken : (given : Input) (who : Who) (c : Chronicle) (x : Instance) → Names given who → Unspoken who c x → HoldsOlder x.place c
    → summary (Given given ∷ c) x ≡ summary c x
unspoken (input.Spawned w i p) who c x says silent older =
    let none : Unspoken w c x = subst (λ v. Unspoken v c x) (sym says) silent in
    rw (none i process.Main, none i process.PreStart, none i process.PostStart, none i process.PreStop, none i process.PostStop, holding-later (Given (input.Spawned w i p)) c (holders x.place c) older) refl
unspoken (input.Refused w i) who c x says silent older =
    let none : Unspoken w c x = subst (λ v. Unspoken v c x) (sym says) silent in
    rw (none i process.Main, none i process.PreStart, none i process.PostStart, none i process.PreStop, none i process.PostStop, holding-later (Given (input.Refused w i)) c (holders x.place c) older) refl
unspoken (input.Ended w i h) who c x says silent older =
    let none : Unspoken w c x = subst (λ v. Unspoken v c x) (sym says) silent in
    rw (none i process.Main, none i process.PreStart, none i process.PostStart, none i process.PreStop, none i process.PostStop, holding-later (Given (input.Ended w i h)) c (holders x.place c) older) refl
unspoken other who c x says silent older = absurd says

both-false : (b d : Bool) → b ≡ false → (b && d) ≡ false
both-false true d h = absurd cc
both-false false d h = refl

pub speaks-not : (job : Bytes) (who : Who) (i : ℕ) (c : Chronicle) (x : Instance) → instance_named who c ≡ Some i → IsKnown job c x → place_named x.name (instances_of job c) ≡ Some x.place → (x.place == i) ≡ false
    → (its p : Process) → speaks_of (made_at x.place c) p who its ≡ false
speaks-not job who i c x named known single apart its p = rw known.1 (both-false (same_who who (called job x.name)) (same_process its p) (one-named job who i c x named single apart))

given-others : (config : Configuration) (job : JobDef) (given : Input) (who : Who) (i : ℕ) (c : Chronicle) (xs : List Instance) → Names given who → instance_named who c ≡ Some i → ((p : ℕ) → HoldsOlder p c)
    → AllByRecursion (IsKnown job.name c) xs → AreSingle (instances_of job.name c) xs → AllByRecursion (λ x. (x.place == i) ≡ false → summary (Given given ∷ c) x ≡ summary c x) xs
given-others config job given who i c [] says named older known single = tt
given-others config job given who i c (x ∷ xs) says named older known single =
    ((λ apart. unspoken given who c x says (speaks-not job.name who i c x named known.0 single.0 apart) (older x.place)), given-others config job given who i c xs says named older known.1 single.1)

-- what an input makes of its instance
abbrev pub change_of : Input → Change
change_of (input.Spawned who its pid) = change.Answers its (Some pid)
change_of (input.Refused who its) = change.Answers its None
change_of (input.Ended who its how) = change.Loses its
change_of other = change.Ends

same-self : (who : Who) → same_who who who ≡ true
same-self who = rw (bytes_refl who.job, bytes_refl who.instance) refl

given-here : (places : Places) (given : Input) (who : Who) (c : Chronicle) (x : Instance) → Names given who → made_at x.place c ≡ Some who → HoldsOlder x.place c
    → summary (Given given ∷ c) x ≡ stepped places (change_of given) (summary c x)
given-here places (input.Spawned w process.Main p) who c x says made older =
    let its : made_at x.place c ≡ Some w = made ∙ ap Some (sym says) in
    rw (its, same-self w, holding-later (Given (input.Spawned w process.Main p)) c (holders x.place c) older) refl
given-here places (input.Spawned w process.PreStart p) who c x says made older =
    let its : made_at x.place c ≡ Some w = made ∙ ap Some (sym says) in
    rw (its, same-self w, holding-later (Given (input.Spawned w process.PreStart p)) c (holders x.place c) older) refl
given-here places (input.Spawned w process.PostStart p) who c x says made older =
    let its : made_at x.place c ≡ Some w = made ∙ ap Some (sym says) in
    rw (its, same-self w, holding-later (Given (input.Spawned w process.PostStart p)) c (holders x.place c) older) refl
given-here places (input.Spawned w process.PreStop p) who c x says made older =
    let its : made_at x.place c ≡ Some w = made ∙ ap Some (sym says) in
    rw (its, same-self w, holding-later (Given (input.Spawned w process.PreStop p)) c (holders x.place c) older) refl
given-here places (input.Spawned w process.PostStop p) who c x says made older =
    let its : made_at x.place c ≡ Some w = made ∙ ap Some (sym says) in
    rw (its, same-self w, holding-later (Given (input.Spawned w process.PostStop p)) c (holders x.place c) older) refl
given-here places (input.Refused w process.Main) who c x says made older =
    let its : made_at x.place c ≡ Some w = made ∙ ap Some (sym says) in
    rw (its, same-self w, holding-later (Given (input.Refused w process.Main)) c (holders x.place c) older) refl
given-here places (input.Refused w process.PreStart) who c x says made older =
    let its : made_at x.place c ≡ Some w = made ∙ ap Some (sym says) in
    rw (its, same-self w, holding-later (Given (input.Refused w process.PreStart)) c (holders x.place c) older) refl
given-here places (input.Refused w process.PostStart) who c x says made older =
    let its : made_at x.place c ≡ Some w = made ∙ ap Some (sym says) in
    rw (its, same-self w, holding-later (Given (input.Refused w process.PostStart)) c (holders x.place c) older) refl
given-here places (input.Refused w process.PreStop) who c x says made older =
    let its : made_at x.place c ≡ Some w = made ∙ ap Some (sym says) in
    rw (its, same-self w, holding-later (Given (input.Refused w process.PreStop)) c (holders x.place c) older) refl
given-here places (input.Refused w process.PostStop) who c x says made older =
    let its : made_at x.place c ≡ Some w = made ∙ ap Some (sym says) in
    rw (its, same-self w, holding-later (Given (input.Refused w process.PostStop)) c (holders x.place c) older) refl
given-here places (input.Ended w process.Main h) who c x says made older =
    let its : made_at x.place c ≡ Some w = made ∙ ap Some (sym says) in
    rw (its, same-self w, holding-later (Given (input.Ended w process.Main h)) c (holders x.place c) older) refl
given-here places (input.Ended w process.PreStart h) who c x says made older =
    let its : made_at x.place c ≡ Some w = made ∙ ap Some (sym says) in
    rw (its, same-self w, holding-later (Given (input.Ended w process.PreStart h)) c (holders x.place c) older) refl
given-here places (input.Ended w process.PostStart h) who c x says made older =
    let its : made_at x.place c ≡ Some w = made ∙ ap Some (sym says) in
    rw (its, same-self w, holding-later (Given (input.Ended w process.PostStart h)) c (holders x.place c) older) refl
given-here places (input.Ended w process.PreStop h) who c x says made older =
    let its : made_at x.place c ≡ Some w = made ∙ ap Some (sym says) in
    rw (its, same-self w, holding-later (Given (input.Ended w process.PreStop h)) c (holders x.place c) older) refl
given-here places (input.Ended w process.PostStop h) who c x says made older =
    let its : made_at x.place c ≡ Some w = made ∙ ap Some (sym says) in
    rw (its, same-self w, holding-later (Given (input.Ended w process.PostStop h)) c (holders x.place c) older) refl
given-here places other who c x says made older = absurd says

-- of what is to come nothing is said
none-there : (p : ℕ) (c : Chronicle) → length c ≤ p → entry_at p c ≡ None
none-there p [] past = refl
none-there p (e ∷ c) past =
    let apart : (length c == p) ≡ false = ne_eqb (length c) p (λ same. omega (arith, past)) in
    rw apart (none-there p c (omega (arith, past)))

-- the book keeps it
pub keeps-given : (places : Places) (book after : List JobInstances) (config : Configuration) (c : Chronicle) (key : InstanceKey) (i : ℕ) (given : Input) (who : Who) → Keeps places book config c → Singles c → place_at book c key ≡ Some i
    → Names given who → instance_named who c ≡ Some i → after ≡ changed_at key (changed (change_of given)) book → Keeps places after config (Given given ∷ c)
keeps-given places book after config c key i given who keeps single found says named does =
    let made = made-named who i c named in
    let t : Touches config c (Given given ∷ c) key.job i (stepped places (change_of given)) = record {
      instances = λ name. refl;
      others = λ job. given-others config job given who i c (instances_of job.name c) says named keeps.older (known-all job.name c) (single job.name);
      here = λ x at. given-here places given who c x says (ap (λ p. made_at p c) at ∙ made.1) (keeps.older x.place);
    } in
    record {
      jobs = rw does (one places (changed (change_of given)) (stepped places (change_of given)) book config c (Given given ∷ c) key i (view-changed places (change_of given)) keeps.jobs keeps.distinct found t);
      older = older-after (Given given) c tt keeps.older;
      later = λ x past. unspoken given who c x says (λ its p. rw (none-there x.place c (omega (arith, past))) refl) (keeps.older x.place) ∙ keeps.later x (omega (arith, past));
      distinct = keeps.distinct;
    }

-- an input that names no instance that exists is spoken of none
none-named : (job : Bytes) (who : Who) (c : Chronicle) (x : Instance) → instance_named who c ≡ None → place_named x.name (instances_of job c) ≡ Some x.place → same_who who (called job x.name) ≡ false
none-named job who c x none single = by_case (bytes_eq who.job job) (bytes_eq who.instance x.name) refl refl
  where
    by_case : (b d : Bool) → bytes_eq who.job job ≡ b → bytes_eq who.instance x.name ≡ d → (b && d) ≡ false
    by_case true true same its =
        let here : instance_named who c ≡ Some x.place = ap (λ name. place_named name (instances_of who.job c)) (bytes_same who.instance x.name its) ∙ ap (λ name. place_named x.name (instances_of name c)) (bytes_same who.job job same) ∙ single in
        let both : None ≡ Some x.place = sym none ∙ here in
        absurd cc
    by_case true false same its = refl
    by_case false d same its = refl

unnamed-all : (config : Configuration) (job : JobDef) (given : Input) (who : Who) (c : Chronicle) (xs : List Instance) → Names given who → instance_named who c ≡ None → ((p : ℕ) → HoldsOlder p c)
    → AllByRecursion (IsKnown job.name c) xs → AreSingle (instances_of job.name c) xs → map (summary (Given given ∷ c)) xs ≡ map (summary c) xs
unnamed-all config job given who c [] says none older known single = refl
unnamed-all config job given who c (x ∷ xs) says none older known single =
    cons_same (unspoken given who c x says (λ its p. rw known.0.1 (both-false (same_who who (called job.name x.name)) (same_process its p) (none-named job.name who c x none single.0))) (older x.place))
    (unnamed-all config job given who c xs says none older known.1 single.1)

unnamed-jobs : (config : Configuration) (given : Input) (who : Who) (c : Chronicle) (jobs : List JobDef) → Names given who → instance_named who c ≡ None → ((p : ℕ) → HoldsOlder p c) → Singles c
    → map (job_summary (Given given ∷ c)) jobs ≡ map (job_summary c) jobs
unnamed-jobs config given who c [] says none older single = refl
unnamed-jobs config given who c (job ∷ jobs) says none older single =
    cons_same (ap (λ (its : List Summary). record { name = job.name; instances = its }) (unnamed-all config job given who c (instances_of job.name c) says none older (known-all job.name c) (single job.name)))
    (unnamed-jobs config given who c jobs says none older single)

pub keeps-unnamed : (places : Places) (book : List JobInstances) (config : Configuration) (c : Chronicle) (given : Input) (who : Who) → Keeps places book config c → Singles c → Names given who → instance_named who c ≡ None
    → Keeps places book config (Given given ∷ c)
keeps-unnamed places book config c given who keeps single says none = record {
  jobs = keeps.jobs ∙ sym (unnamed-jobs config given who c config.jobs says none keeps.older single);
  older = older-after (Given given) c tt keeps.older;
  later = λ x past. unspoken given who c x says (λ its p. rw (none-there x.place c (omega (arith, past))) refl) (keeps.older x.place) ∙ keeps.later x (omega (arith, past));
  distinct = keeps.distinct;
}
