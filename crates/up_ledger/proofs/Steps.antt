-- What is kept of an instance, seen as a summary, changes as the summary does.
use Rattle.std.proofs.Common.{◌≡◌, Bool, true, false, Option, None, Some, refl, if◌then◌else◌}
use Rattle.up_job.specs.Changes.{changed, begun, env_after, is_starting}
use Rattle.up_model.specs.declared.state.State.{State}
use Rattle.up_model.specs.Values.{Bindings}
use Rattle.up_job.specs.declared.change.Change.{Change}
use Rattle.up_job.specs.declared.change.Change.TheVariants as change
use Rattle.up_job.specs.declared.instance.Instance.{Instance as Kept}
use Rattle.up_ledger.specs.Stepping.{stepped, starting_if}
use Rattle.up_book.specs.Views.{Places, view, bindings_of, pending_of}

pending-begun : (pending env : Option Bindings) → bindings_of (env_after pending env) ≡ pending_of pending env
pending-begun None env = refl
pending-begun (Some pending) env = refl

entered-view : (places : Places) (state : State) (k : Kept) (b : Bool)
    → view places (record (if b then begun k else k) { state = state; restarted = false; kill_moment = None })
    ≡ record (starting_if b (view places k)) { state = state; restarted = false; kill_moment = None }
entered-view places state k true = rw (pending-begun k.pending k.env) refl
entered-view places state k false = refl

pub view-changed : (places : Places) (its : Change) (k : Kept) → view places (changed its k) ≡ stepped places its (view places k)
view-changed places (change.Starts environment holders) k = refl
view-changed places (change.Stops environment holders) k = refl
view-changed places change.Ends k = refl
view-changed places (change.Restarts holders) k = refl
view-changed places (change.Releases none) k = refl
view-changed places (change.Fails failure) k = refl
view-changed places (change.Enters state) k = entered-view places state k (is_starting state)
view-changed places (change.Orders its) k = refl
view-changed places (change.Answers its pid) k = refl
view-changed places (change.Loses its) k = refl
view-changed places (change.Signals moment) k = refl
view-changed places (change.Waits event) k = refl
view-changed places (change.Respawns moment) k = refl
