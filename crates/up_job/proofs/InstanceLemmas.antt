-- The list of a job's instances after each change.
use Rattle.std.proofs.Common.{◌≡◌, ℕ, ◌<◌, List, None, map, length, refl, ap, arith}
use Rattle.std.proofs.lemmas.List.{length-map}
use Rattle.up_model.specs.declared.state.State.{State}
use Rattle.up_model.specs.declared.state.State.TheVariants.{Starting}
use Rattle.up_model.specs.Values.{Bytes}
use Rattle.up_job.specs.declared.change.Change.{Change}
use Rattle.up_job.specs.declared.change.Change.TheVariants as change
use Rattle.up_job.specs.declared.instance.Instance.{Instance}
use Rattle.up_job.specs.Changes.{changed, entered}
use Rattle.up_job.specs.InstanceLists.{name_of, named, with_change, with_instance, without, max_instances, IsInstanceList}
use Rattle.up_job.specs.Lists.{with_at, without_at}
use Rattle.up_job.proofs.NamedLemmas.{order_put, order_without, order-names, names-with_change, length_put, length_without}
use Rattle.up_job.proofs.Places.{length-without_at, map-with_at, order-without_at}

name-entered : (state : State) (instance : Instance) → (entered state instance).name ≡ instance.name
name-entered Starting instance = refl
name-entered other instance = refl

-- no change changes the name
pub name-changed : (its : Change) (instance : Instance) → name_of (changed its instance) ≡ name_of instance
name-changed (change.Starts environment holders) instance = refl
name-changed (change.Stops environment holders) instance = refl
name-changed change.Ends instance = refl
name-changed (change.Restarts holders) instance = refl
name-changed (change.Releases none) instance = refl
name-changed (change.Fails failure) instance = refl
name-changed (change.Enters state) instance = name-entered state instance
name-changed (change.Orders its) instance = refl
name-changed (change.Answers its pid) instance = refl
name-changed (change.Loses its) instance = refl
name-changed (change.Signals moment) instance = refl
name-changed (change.Waits event) instance = refl
name-changed (change.Respawns moment) instance = refl

-- the names alone say whether instances are those of a job
list-names : (xs ys : List Instance) → map name_of xs ≡ map name_of ys → IsInstanceList xs → IsInstanceList ys
list-names xs ys same its =
    (order-names name_of xs ys same its.0, omega (arith, length-map xs name_of, length-map ys name_of, ap length same, its.1))

pub list_with : (instance : Instance) (xs : List Instance) → IsInstanceList xs → named instance.name xs ≡ None → length xs < max_instances → IsInstanceList (with_instance instance xs)
list_with instance xs its absent less = (order_put name_of instance xs its.0 absent, omega (arith, length_put name_of instance xs, less))

pub list_without : (name : Bytes) (xs : List Instance) → IsInstanceList xs → IsInstanceList (without name xs)
list_without name xs its = (order_without name_of name xs its.0, omega (arith, length_without name_of name xs, its.1))

pub list_without_at : (at : ℕ) (xs : List Instance) → IsInstanceList xs → IsInstanceList (without_at at xs)
list_without_at at xs its = (order-without_at name_of at xs its.0, omega (arith, length-without_at at xs, its.1))

pub list_with_change : (name : Bytes) (its : Change) (xs : List Instance) → IsInstanceList xs → IsInstanceList (with_change name (changed its) xs)
list_with_change name its xs = list-names xs (with_change name (changed its) xs) (names-with_change name_of name (changed its) (name-changed its) xs)

pub list_with_at : (at : ℕ) (f : Instance → Instance) → ((x : Instance) → name_of (f x) ≡ name_of x) → (xs : List Instance) → IsInstanceList xs → IsInstanceList (with_at at f xs)
list_with_at at f same xs = list-names xs (with_at at f xs) (map-with_at name_of f same at xs)
