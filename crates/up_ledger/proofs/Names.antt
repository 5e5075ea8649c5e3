-- The names that the long proofs of this crate share: of std, of the crates below and of the specs.
pub use Rattle.std.proofs.Common.{◌≡◌, inl, ℕ, ◌<◌, ◌==◌, Bool, true, false, List, [], ◌∷◌, ◌++◌, length, map, Option}
pub use Rattle.std.proofs.Common.{None, Some, option_map, bytes_eq, if◌then◌else◌, refl, sym, ◌∙◌, ap, subst, arith}
pub use Rattle.std.proofs.Common.{append_assoc, zero, suc, ◌+◌, ◌≤◌, replicate, is_some, eq-eqb, ◌&&◌, eqb-true}
pub use Rattle.std.specs.List.{AllByRecursion}
pub use Rattle.up_conf.specs.declared.job.JobDef.{JobDef}
pub use Rattle.up_stanza.specs.declared.process.Process.{Process}
pub use Rattle.up_expr.specs.Truth.{Sight}
pub use Rattle.up_event.specs.declared.live.LiveEvent.{LiveEvent}
pub use Rattle.up_event.specs.LiveEvents.{named, with_hold}
pub use Rattle.up_model.specs.declared.event.Event.{Event}
pub use Rattle.up_model.specs.declared.event_id.EventId.{EventId}
pub use Rattle.up_model.specs.declared.failure.Failure.{Failure}
pub use Rattle.up_model.specs.declared.input.Input.{Input}
pub use Rattle.up_model.specs.declared.output.Output.{Output}
pub use Rattle.up_model.specs.declared.state.State.{State}
pub use Rattle.up_model.specs.Chronicle.{Chronicle, Entry, Given, Queued, Made, Released, Failed, Entered, Ordered}
pub use Rattle.up_model.specs.Chronicle.{Signalled, Replied, Outside, Expression, Offered, Fired, StartOn, StopOn}
pub use Rattle.up_model.specs.Chronicle.{Entering}
pub use Rattle.up_model.specs.Configuration.{Configuration, job_named}
pub use Rattle.up_model.specs.Held.{is_spoilt}
pub use Rattle.up_model.specs.Instances.{Instance, with_instance, instances_of, all_instances}
unfoldable pub use Rattle.up_model.specs.Outputs.{outputs_of}
pub use Rattle.up_model.specs.Predicates.{is_waiting}
pub use Rattle.up_model.specs.Queue.{queue, Live}
pub use Rattle.up_model.specs.Readings.{entry_at, file_of, holders, id_of, id_at, event_at}
pub use Rattle.up_model.specs.Replies.{answering, answering_waiter, releasing, if_waits, request_in, request_instance}
pub use Rattle.up_model.specs.Replies.{status_if, status_of, waiter_in}
pub use Rattle.up_model.specs.Values.{Bytes, Bindings}
pub use Rattle.up_model.proofs.Places.{count, bytes_same, bytes_refl}
pub use Rattle.up_model.proofs.QueueLaws.{queue_by_age}
pub use Rattle.up_model.proofs.ReplyLaws.{releasing-all}
pub use Rattle.up_model.proofs.Sparing.{same-append}
pub use Rattle.up_job.specs.declared.instance_key.InstanceKey.{InstanceKey}
pub use Rattle.up_job.specs.declared.instances.JobInstances.{JobInstances}
pub use Rattle.up_job.specs.InstanceLists.{new_instance}
pub use Rattle.up_job.specs.JobLists.{position_at, job_of, changed_in, changed_at, list_of}
pub use Rattle.up_job.specs.Lending.{with_stop_on}
pub use Rattle.up_job.specs.Lists.{nth, with_at}
pub use Rattle.up_marks.specs.declared.mark.Mark.{Mark}
pub use Rattle.up_marks.specs.declared.marks.Offer.{Offer}
pub use Rattle.up_marks.specs.declared.trigger.Firing.{Firing}
pub use Rattle.up_marks.specs.Agreeing.{sight_of}
pub use Rattle.up_marks.specs.Naming.{naming_in}
pub use Rattle.up_marks.specs.Triggers.{Remembers, kept_by, uses_by}
pub use Rattle.up_marks.proofs.SkipLemmas.{seen_own}
pub use Rattle.up_image.specs.declared.index.Place.{Place}
pub use Rattle.up_book.specs.declared.holders.Holders.{Holders}
pub use Rattle.up_book.specs.declared.holders.Holders.TheVariants.{Taken, Client, Nobody}
pub use Rattle.up_book.specs.Hearers.{IsFound, AreFound}
pub use Rattle.up_book.specs.Keeps.{AreDistinct, Keeps, AreOlder, HoldsOlder}
pub use Rattle.up_book.specs.Keys.{Stepping, job_at, instance_place, request_place, held_as}
pub use Rattle.up_book.specs.Sending.{listed, order_by, signal_by, status_by}
pub use Rattle.up_book.specs.Summaries.{Summary, holding_at}
pub use Rattle.up_book.specs.Views.{Places, view, holding_of, kept_in, kept_at, job_view}
pub use Rattle.up_book.proofs.Keyed.{place-keyed, job-there}
pub use Rattle.up_book.proofs.Lists.{cons_same}
pub use Rattle.up_book.proofs.One.{There, there, its-file, IsKnown, known-all, nth-all}
pub use Rattle.up_book.proofs.Tables.{named-there}
pub use Rattle.up_ledger.specs.declared.ledger.Ledger.{Ledger}
pub use Rattle.up_ledger.specs.declared.past.Past.{Past}
pub use Rattle.up_ledger.specs.declared.step.ActedOn.{ActedOn}
pub use Rattle.up_ledger.specs.declared.step.ActedOn.TheVariants.{Exists, Gone}
pub use Rattle.up_ledger.specs.declared.step.Asked.{Asked}
pub use Rattle.up_ledger.specs.Asking.{asked_in, asked_of, waiter_of}
pub use Rattle.up_ledger.specs.Counting.{one_if, holder_uses, uses, start_uses}
pub use Rattle.up_ledger.specs.Eventing.{number_of, place_of, Standing, standing_of, holds_of}
pub use Rattle.up_ledger.specs.Hearing.{Hears, Fires, trigger_in, trigger_at, trigger_of}
pub use Rattle.up_ledger.specs.Holding.{held_by_kept, freed, all_changed, as_holders, AllLive}
pub use Rattle.up_ledger.specs.Ledgers.{AreLeaves, Stands}
pub use Rattle.up_ledger.specs.Regular.{MayFollow}
pub use Rattle.up_ledger.specs.Remembering.{InstancesRemember, StopsRemember, StartsRemember, Remembered}
pub use Rattle.up_ledger.specs.Replying.{replies_to}
pub use Rattle.up_ledger.specs.Requesting.{OnMeans, moved_on, after_made, IsGone, on_left, after_left}
pub use Rattle.up_ledger.specs.Standing.{Forgets, event_place}
pub use Rattle.up_ledger.specs.Steps.{Asks}
