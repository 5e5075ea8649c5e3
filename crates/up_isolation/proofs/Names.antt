-- The names that the long proofs of this crate share: of std, of the model and of the specs.
pub use Rattle.std.proofs.Common.{◌≡◌, ℕ, ◌<◌, ◌≤◌, ◌==◌, ◌||◌, ◌⊎◌, inl, inr, Bool, true, false, List, [], ◌∷◌}
pub use Rattle.std.proofs.Common.{◌++◌, Option, None, Some, is_some, length, if◌then◌else◌, bytes_eq, refl, sym}
pub use Rattle.std.proofs.Common.{◌∙◌, ap, ap₂, subst, arith, ne_eqb, append-nil, not, ◌&&◌, subst₂, append_assoc}
pub use Rattle.std.proofs.Common.{nat_lt, option_to_list, eq-eqb, eqb-true, zero, suc, ◌+◌, codes}
pub use Rattle.std.specs.List.{AllByRecursion, list_any}
pub use Rattle.up_conf.specs.declared.job.JobDef.{JobDef}
pub use Rattle.up_text.specs.Bindings.{set_all}
pub use Rattle.up_text.specs.Expansion.{Expansion, Expands, Lacks, Malformed, expand}
pub use Rattle.up_text.specs.Scripts.{is_filled}
pub use Rattle.up_stanza.specs.declared.process.Process.{Process}
pub use Rattle.up_stanza.specs.declared.process.Process.TheVariants.{Main}
pub use Rattle.up_expr.specs.Matching.{matches}
pub use Rattle.up_expr.specs.Trees.{Tree, One, Both, Either}
pub use Rattle.up_expr.specs.Truth.{Sight}
pub use Rattle.up_expr.specs.declared.expr.Leaf.{Leaf}
pub use Rattle.up_model.specs.declared.event.Event.{Event}
pub use Rattle.up_model.specs.declared.input.Input.{Input}
pub use Rattle.up_model.specs.declared.life.JobEvent.{JobEvent}
pub use Rattle.up_model.specs.declared.request.Answer.{Answer}
pub use Rattle.up_model.specs.declared.request.Command.{Command}
pub use Rattle.up_model.specs.declared.state.Goal.TheVariants.{Start, Stop}
pub use Rattle.up_model.specs.declared.state.State.{State}
pub use Rattle.up_model.specs.declared.who.Who.{Who}
pub use Rattle.up_model.specs.Answers.{next, is_expected}
unfoldable pub use Rattle.up_model.specs.Answers.{after, after_all}
pub use Rattle.up_model.specs.Chronicle.{Chronicle, Entry, Given, Queued, Handled, Offered, Fired, Finished, Made}
pub use Rattle.up_model.specs.Chronicle.{Aimed, Restarted, Released, Failed, Respawned, Entered, Ordered}
pub use Rattle.up_model.specs.Chronicle.{Signalled, Replied, Loaded, Entering, Outside, Spoilt, StartOn, StopOn}
pub use Rattle.up_model.specs.Chronicle.{Expression}
pub use Rattle.up_model.specs.Clock.{now, all_overdue, kill, killing, milliseconds}
pub use Rattle.up_model.specs.Commands.{Target, Nobody, Concerns, target_as, request_env, target_in, target_of}
pub use Rattle.up_model.specs.Commands.{start_at, start, stop_at, stop, restart_at, restart, reload_at, reload}
pub use Rattle.up_model.specs.Commands.{status_at, status, holders_of, outcome_by, outcome_of, entries_of}
pub use Rattle.up_model.specs.Commands.{known_target, Done, is_running, reloading}
pub use Rattle.up_model.specs.Configuration.{Configuration, job_named}
pub use Rattle.up_model.specs.Due.{telling, failed_event_of, finishing, turn_event, turn_of}
unfoldable pub use Rattle.up_model.specs.Due.{due, effect}
pub use Rattle.up_model.specs.Environments.{env_by_job, env_of_job, start_base, instance_name}
pub use Rattle.up_model.specs.Events.{events_at, events_env, with_instance, stopped_by}
pub use Rattle.up_model.specs.Files.{file_in_force, known_file, own_file, names_in_order, job_names}
pub use Rattle.up_model.specs.Held.{start_on_of, is_spoilt}
pub use Rattle.up_model.specs.Instances.{Instance, without_instance, instances_of, instance_named, place_named}
pub use Rattle.up_model.specs.Life.{entering}
pub use Rattle.up_model.specs.Loads.{in_force, with_jobs, loading}
pub use Rattle.up_model.specs.Moves.{move, move_first, move_of, may_leave, move_in, has_process, who_of, emitting}
pub use Rattle.up_model.specs.Moves.{ordering, enter, next_of}
pub use Rattle.up_model.specs.Offers.{stop_of, stop_by, stop_offer, max_instances, start_of, who_called, start_who}
pub use Rattle.up_model.specs.Offers.{start_env, start_by, start_offer, is_newborn, is_open, offering, offer_first}
pub use Rattle.up_model.specs.Offers.{offer_next}
pub use Rattle.up_model.specs.Predicates.{is_start, entries_if, or_else}
pub use Rattle.up_model.specs.Queue.{Live, queue}
pub use Rattle.up_model.specs.Readings.{entry_at, made_at, event_at, blocker, without, holders, speaks_of, goal}
pub use Rattle.up_model.specs.Readings.{event_of, made_of, state_of, lives}
pub use Rattle.up_model.specs.Replies.{request_at, releasing, unanswered, answering_hurried, answering_last, asked}
pub use Rattle.up_model.specs.Replies.{request_in, unless_answered, waiter, answering_waiter, status_of}
pub use Rattle.up_model.specs.Replies.{was_answered, request_instance, answering_one, answering}
pub use Rattle.up_model.specs.Requests.{RequestValue}
pub use Rattle.up_model.specs.Seen.{seen, sight_of, env_of, holds, taken, was_offered}
pub use Rattle.up_model.specs.Values.{Bytes, Bindings}
pub use Rattle.up_model.specs.Work.{work}
unfoldable pub use Rattle.up_model.specs.Work.{settle}
pub use Rattle.up_model.proofs.FileLaws.{named-name, in_force-name, known-name}
pub use Rattle.up_model.proofs.LoadLaws.{LoadsNothing}
pub use Rattle.up_model.proofs.NameLaws.{called, Singles, entered-singles, made-singles}
pub use Rattle.up_model.proofs.Places.{bytes_refl, older-other, count, bytes_same, one_if}
pub use Rattle.up_model.proofs.ReplyLaws.{releasing-all, outcome-all, answering_waiter-all}
pub use Rattle.up_model.proofs.Sparing.{same-append, all-append, all-if, all-weaker, IsOf}
pub use Rattle.up_model.proofs.WorkLaws.{due-about}
pub use Rattle.up_isolation.specs.Isolation.{names_called}
pub use Rattle.up_isolation.specs.Parts.{contents, content, items, items_if, hears_event, Content, content_of}
pub use Rattle.up_isolation.specs.Parts.{Item, noticed}
pub use Rattle.up_isolation.specs.Views.{Arrived, Unblocked, stands_in, hears, concerns, is_blocked_by, unblocked}
pub use Rattle.up_isolation.specs.Views.{arrivals, is_of, owns, was_asked, jobs_called, Notice, notices, Received}
pub use Rattle.up_isolation.specs.Views.{asks, Replaced, names_job}
unfoldable pub use Rattle.up_isolation.specs.Views.{deeds}
