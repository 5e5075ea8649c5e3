-- The names that the long proofs of this crate share: of std and of the specs.
pub use Rattle.std.proofs.Common.{◌≡◌, ℕ, zero, suc, ◌+◌, ◌≤◌, ◌==◌, ◌⊎◌, inl, inr, Bool, true, false, not, List}
pub use Rattle.std.proofs.Common.{[], ◌∷◌, ◌++◌, length, Option, None, Some, is_some, if◌then◌else◌, refl, sym}
pub use Rattle.std.proofs.Common.{◌∙◌, ap, subst, arith, append_assoc, ◌<◌, ◌&&◌, ◌||◌, eq-eqb, nat_lt, codes}
pub use Rattle.std.proofs.Common.{bytes_eq, eqb-true, filter}
pub use Rattle.std.specs.List.{AllByRecursion}
pub use Rattle.up_conf.specs.declared.job.JobDef.{JobDef}
pub use Rattle.up_text.specs.Scripts.{is_filled}
pub use Rattle.up_stanza.specs.declared.process.Process.{Process}
pub use Rattle.up_stanza.specs.declared.process.Process.TheVariants.{Main}
pub use Rattle.up_expr.specs.Truth.{Sight}
pub use Rattle.up_model.specs.declared.event.Event.{Event}
pub use Rattle.up_model.specs.declared.failure.End.{End}
pub use Rattle.up_model.specs.declared.failure.Failure.{Failure}
pub use Rattle.up_model.specs.declared.failure.Verdict.{Verdict}
pub use Rattle.up_model.specs.declared.input.Input.{Input}
pub use Rattle.up_model.specs.declared.life.JobEvent.{JobEvent}
pub use Rattle.up_model.specs.declared.request.Answer.{Answer}
pub use Rattle.up_model.specs.declared.request.Command.{Command}
pub use Rattle.up_model.specs.declared.state.Goal.{Goal}
pub use Rattle.up_model.specs.declared.state.Goal.TheVariants.{Start, Stop}
pub use Rattle.up_model.specs.declared.state.State.{State}
pub use Rattle.up_model.specs.declared.state.State.TheVariants.{Starting, Stopping, Waiting, PostStart, Running}
pub use Rattle.up_model.specs.declared.state.State.TheVariants.{PreStop, Spawned, Killed}
pub use Rattle.up_model.specs.declared.who.Who.{Who}
pub use Rattle.up_model.specs.Answers.{next, awaits}
unfoldable pub use Rattle.up_model.specs.Answers.{after, is_expected, after_all}
pub use Rattle.up_model.specs.Blocks.{HasOneMain}
pub use Rattle.up_model.specs.Chronicle.{Chronicle, Entry, Given, Queued, Handled, Finished, Made, Aimed, Released}
pub use Rattle.up_model.specs.Chronicle.{Failed, Respawned, Entered, Ordered, Signalled, Replied, Loaded, Outside}
pub use Rattle.up_model.specs.Chronicle.{Entering, Spoilt, Offered, Fired, StartOn, StopOn}
pub use Rattle.up_model.specs.Clock.{all_overdue, kill, killing}
pub use Rattle.up_model.specs.Commands.{Refused, Done, Target, Nobody, Concerns, refusal, target_of, known_target}
pub use Rattle.up_model.specs.Commands.{start_at, start, holders_of, outcome_by, outcome_of, entries_of}
pub use Rattle.up_model.specs.Commands.{is_running}
pub use Rattle.up_model.specs.Configuration.{Configuration, job_named}
pub use Rattle.up_model.specs.Due.{end_of, turn_event, turn_of, end_by}
unfoldable pub use Rattle.up_model.specs.Due.{due, effect}
pub use Rattle.up_model.specs.Environments.{env_of_job, instance_name}
pub use Rattle.up_model.specs.Events.{events_at, events_env, with_instance, stopped_by}
pub use Rattle.up_model.specs.Files.{own_file, names_in_order, job_names}
pub use Rattle.up_model.specs.Instances.{instance_named, all_instances, Instance, without_instance, instances_of}
pub use Rattle.up_model.specs.Judgement.{verdict_on_end, end_itself, keep_failure, fail, carry_out}
pub use Rattle.up_model.specs.Left.{left_in, left_at, left_among}
unfoldable pub use Rattle.up_model.specs.Left.{left}
pub use Rattle.up_model.specs.Life.{next_state, entering, wait_in}
pub use Rattle.up_model.specs.Loads.{in_force, loading}
pub use Rattle.up_model.specs.Moves.{move_first, has_process, emitting, ordering, enter, enter_whole, may_leave}
pub use Rattle.up_model.specs.Moves.{next_of, who_of, move, move_of, move_in, is_over}
pub use Rattle.up_model.specs.Offers.{offering, offer_next, is_open, stop_of, stop_by, stop_offer, stop_offer_in}
pub use Rattle.up_model.specs.Offers.{max_instances, start_of, who_called, start_who, start_by, start_offer}
pub use Rattle.up_model.specs.Offers.{start_env}
pub use Rattle.up_model.specs.Predicates.{is_start, entries_if, or_else, is_waiting, same_process}
pub use Rattle.up_model.specs.Queue.{queue}
pub use Rattle.up_model.specs.Readings.{made_at, file_of, goal, state_of, blocker, failure, holders, pid_of}
pub use Rattle.up_model.specs.Readings.{is_blocking, lives, is_awaited}
pub use Rattle.up_model.specs.Replies.{releasing, unanswered, answering_last}
pub use Rattle.up_model.specs.Requests.{RequestValue}
pub use Rattle.up_model.specs.Seen.{seen, holds, taken, was_offered}
pub use Rattle.up_model.specs.Values.{Bindings, Bytes}
pub use Rattle.up_model.specs.Work.{work}
unfoldable pub use Rattle.up_model.specs.Work.{settle}
