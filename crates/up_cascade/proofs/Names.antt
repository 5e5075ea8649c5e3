-- The names that the long proofs of this crate share: of std, of the crates below and of the specs.
pub use Rattle.std.proofs.Common.{◌≡◌, ℕ, zero, suc, nat_lt, ◌+◌, ◌≤◌, ◌==◌, Bool, true, false, not, List, [], ◌∷◌}
pub use Rattle.std.proofs.Common.{◌++◌, length, Option, None, Some, is_some, bytes_eq, if◌then◌else◌, refl, sym, ◌∙◌}
pub use Rattle.std.proofs.Common.{ap, subst, arith, append_assoc, eq-eqb, ◌&&◌, ◌||◌, append-nil}
pub use Rattle.std.specs.List.{AllByRecursion}
pub use Rattle.up_conf.specs.declared.job.JobDef.{JobDef}
pub use Rattle.up_stanza.specs.declared.process.Process.{Process}
pub use Rattle.up_model.specs.declared.event.Event.{Event}
pub use Rattle.up_model.specs.declared.input.Input.{Input}
pub use Rattle.up_model.specs.declared.input.Input.TheVariants.{Turn}
pub use Rattle.up_model.specs.declared.life.JobEvent.{JobEvent}
pub use Rattle.up_model.specs.declared.state.Goal.TheVariants.{Start, Stop}
pub use Rattle.up_model.specs.declared.state.State.{State}
pub use Rattle.up_model.specs.declared.state.State.TheVariants.{Waiting, Starting, PreStart, Spawned, PostStart}
pub use Rattle.up_model.specs.declared.state.State.TheVariants.{Running, PreStop, Stopping, Killed, PostStop}
pub use Rattle.up_model.specs.declared.who.Who.{Who}
pub use Rattle.up_model.specs.Chronicle.{Chronicle, Entry, Given, Handled, Offered, Fired, Made, Aimed, Entered}
pub use Rattle.up_model.specs.Chronicle.{StartOn, Signalled, Expression, Ordered, StopOn}
pub use Rattle.up_model.specs.Configuration.{Configuration}
unfoldable pub use Rattle.up_model.specs.Due.{due, effect}
pub use Rattle.up_model.specs.Events.{events_at}
pub use Rattle.up_model.specs.Instances.{Instance, without_instance, instances_of, place_named, instance_named}
pub use Rattle.up_model.specs.Life.{entering, wait_in}
pub use Rattle.up_model.specs.Moves.{may_leave, next_of, move, has_process, emitting, ordering, enter, enter_whole}
pub use Rattle.up_model.specs.Moves.{who_of}
pub use Rattle.up_model.specs.Offers.{offering, stop_offer, max_instances, start_of, who_called, start_who, start_by}
pub use Rattle.up_model.specs.Offers.{start_offer, start_env}
pub use Rattle.up_model.specs.Predicates.{is_start, entries_if, or_else}
pub use Rattle.up_model.specs.Readings.{goal, state_of, blocker, made_at, lives}
pub use Rattle.up_model.specs.Replies.{releasing, asked, unless_answered, answering_hurried, answering_last}
pub use Rattle.up_model.specs.Seen.{seen, holds, taken}
pub use Rattle.up_model.specs.Values.{Bytes, Bindings}
pub use Rattle.up_model.specs.Work.{moves_at}
pub use Rattle.up_model.proofs.FileLaws.{HasFile, files}
pub use Rattle.up_model.proofs.JobOffers.{offer_next}
pub use Rattle.up_model.proofs.MoveLaws.{moves-few}
pub use Rattle.up_model.proofs.Places.{count, one_if, bytes_refl, instances-exist}
pub use Rattle.up_model.proofs.ReplyLaws.{releasing-all}
pub use Rattle.up_model.proofs.Sparing.{same-append, all-append, all-if}
pub use Rattle.up_job.specs.Lists.{nth}
pub use Rattle.up_book.specs.Keeps.{AreDistinct}
pub use Rattle.up_book.proofs.Keyed.{nth-get}
pub use Rattle.up_book.proofs.One.{IsKnown, known-all, called, none-of-others, apart-back}
pub use Rattle.up_cascade.specs.Offering.{Asked, OfStop, OfStart}
pub use Rattle.up_cascade.specs.Settling.{settle_one, settle_each, settle_all, hear_stops, hear, hear_all, ListsAfter}
pub use Rattle.up_cascade.specs.Unfired.{NoneHolds}
