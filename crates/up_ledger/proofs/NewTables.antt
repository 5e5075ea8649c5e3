-- What is kept of a table before anything has happened.
use Rattle.std.proofs.Common.{◌≡◌, ℕ, zero, suc, ◌+◌, ◌<◌, Bool, true, false, List, [], ◌∷◌, ◌++◌, length, map, take, get_or, Option, Some, slice_index_or, refl, sym, ◌∙◌, ap, subst, arith}
use Rattle.up_conf.specs.declared.job.JobDef.{JobDef}
use Rattle.up_image.specs.Index.{named, places_of}
use Rattle.up_image.specs.declared.index.Place.{Place}
use Rattle.up_job.specs.Lists.{nth}
use Rattle.up_marks.specs.Naming.{of_expression, naming_in, side_of}
use Rattle.up_marks.proofs.NameLemmas.{places-leaves}
use Rattle.up_book.specs.Hearers.{HasIndex}
use Rattle.up_marks.specs.Triggers.{Remembers}
use Rattle.up_marks.specs.declared.mark.Mark.{Mark}
use Rattle.up_model.specs.Configuration.{Configuration}
use Rattle.up_model.specs.Values.{Bytes}
use Rattle.up_model.specs.declared.event_id.EventId.{EventId}
use Rattle.up_ledger.specs.Counting.{start_uses}
use Rattle.up_ledger.specs.Remembering.{StartsRemember}
use Rattle.up_book.specs.Views.{Places}
use Rattle.up_ledger.proofs.Beginning.{blank-unused}

-- one trigger more
pub starts-more : (places : Places) (config : Configuration) (ts : List (Option (List Mark))) (t : Option (List Mark)) (jobs : List JobDef) (i : ℕ) (d : JobDef) → i < length jobs → StartsRemember places config [] ts (take i jobs)
    → Remembers places t (get_or jobs i d).start_on [] → StartsRemember places config [] (ts ++ t ∷ []) (take (i + 1) jobs)
starts-more places config ts t [] i d within r new = absurd (omega arith)
starts-more places config [] t (job ∷ jobs) zero d within r new = (new, tt)
starts-more places config (u ∷ ts) t (job ∷ jobs) zero d within r new = absurd r
starts-more places config [] t (job ∷ jobs) (suc i) d within r new = absurd r
starts-more places config (u ∷ ts) t (job ∷ jobs) (suc i) d within r new =
    let one : suc i + 1 ≡ suc (i + 1) = omega arith in
    subst (λ n. StartsRemember places config [] (u ∷ ts ++ t ∷ []) (take n (job ∷ jobs))) (sym one) (r.0, starts-more places config ts t jobs i d (omega arith) r.1 new)

pub starts-unused : (config : Configuration) (ts : List (Option (List Mark))) (jobs : List JobDef) (id : EventId) → ((places : Places) → StartsRemember places config [] ts jobs) → start_uses id ts ≡ 0
starts-unused config [] [] id blank = refl
starts-unused config [] (job ∷ jobs) id blank = absurd (blank (λ one. Rattle.std.proofs.Common.None))
starts-unused config (t ∷ ts) [] id blank = absurd (blank (λ one. Rattle.std.proofs.Common.None))
starts-unused config (t ∷ ts) (job ∷ jobs) id blank =
    omega (arith, blank-unused t job.start_on (λ places. (blank places).0) id, starts-unused config ts jobs id (λ places. (blank places).1))

-- an index has the leaves of each expression
there-at : (n : ℕ) (jobs : List JobDef) (job : JobDef) → nth n jobs ≡ Some job → (n < length jobs) × (slice_index_or jobs n job ≡ job)
there-at n [] job there = absurd cc
there-at zero (first ∷ jobs) job there = (omega arith, cc)
there-at (suc n) (first ∷ jobs) job there =
    let rest = there-at n jobs job there in
    (omega (arith, rest.0), rest.1)

pub indexed : (jobs : List JobDef) (index : List Place)
    → ((name : Bytes) (k : ℕ) (start : Bool) (job : JobDef) → k < length jobs → map (λ (place : Place). place.node) (of_expression k start (named name index)) ≡ naming_in (side_of start (slice_index_or jobs k job)) name) → HasIndex index jobs
indexed jobs index leaves = record {
  stops = λ n job there name. leaves name n false job (there-at n jobs job there).0 ∙ ap (λ (j : JobDef). naming_in (side_of false j) name) (there-at n jobs job there).1;
  starts = λ n job there name. leaves name n true job (there-at n jobs job there).0 ∙ ap (λ (j : JobDef). naming_in (side_of true j) name) (there-at n jobs job there).1;
}

pub indexed-places : (jobs : List JobDef) → HasIndex (places_of 0 jobs) jobs
indexed-places jobs = indexed jobs (places_of 0 jobs) (λ name k start job below. places-leaves jobs name k start job below)
