use Rattle.std.proofs.Common.{◌≡◌, ◌∙◌, ℕ, ◌<◌, Bool, List, length, map, slice_index_or, sym, ap, subst}
use Rattle.std.proofs.lemmas.Result.{IfOk-weaker}
use Rattle.up_conf.specs.declared.job.JobDef.{JobDef}
use Rattle.up_image.specs.declared.index.Place.{Place}
use Rattle.up_image.specs.Index.{places_of, named}
use Rattle.up_value.specs.Values.{Bytes}
use Rattle.up_marks.specs.Naming.{Rising, naming_in, of_expression, side_of}
use Rattle.up_marks.proofs.NameLemmas.{places-leaves, rising_jobs}
use Rattle.up_marks.proofs.index.Index.of.Goals as goal

pub of_places-requires : goal.of_places-requires
of_places-requires c = subst (λ xs. Rising 0 xs) (sym c.in_ok-places_of_files.ensures) (rising_jobs c.args.files.now)

-- the leaves of an index with these places
leaves_here : (jobs : List JobDef) (places index : List Place) → places ≡ places_of 0 jobs → ((name : Bytes) → named name index ≡ named name places)
    → (name : Bytes) (k : ℕ) (start : Bool) (job : JobDef) → k < length jobs → map (λ (place : Place). place.node) (of_expression k start (named name index)) ≡ naming_in (side_of start (slice_index_or jobs k job)) name
leaves_here jobs places index are same name k start job below =
    ap (λ ps. map (λ (place : Place). place.node) (of_expression k start ps)) (same name ∙ ap (named name) are)
    ∙ places-leaves jobs name k start job below

pub returns-clause-leaves : goal.returns-clause-leaves
returns-clause-leaves c =
    IfOk-weaker c.of_places.result _ _ (λ index same. leaves_here c.args.files.now c.in_ok-places_of_files.field-0.items index c.in_ok-places_of_files.ensures same) c.of_places.ensures
