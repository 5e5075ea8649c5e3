-- What the end or the refusal of a process does to its instance (init(5), "normal exit"; which of them fail an instance is this
-- project's choice).
use Rattle.std.specs.Prelude.{ℕ, Bool, true, false, ◌&&◌, ◌||◌, not, ◌==◌, List, [], ◌∷◌, ◌++◌, Option, None, Some, is_some, if◌then◌else◌}
use Rattle.up_stanza.specs.declared.process.Process.{Process}
use Rattle.up_stanza.specs.declared.process.Process.TheVariants.{Main, PreStart, PostStart, PreStop, PostStop}
use Rattle.std.specs.List.{list_any}
use Rattle.up_stanza.specs.declared.exit.Exit.{Exit}
use Rattle.up_stanza.specs.declared.exit.Exit.TheVariants as exit
use Rattle.up_stanza.specs.Exits.{same_exit}
use Rattle.up_conf.specs.declared.job.JobDef.{JobDef}
use Rattle.up_model.specs.declared.failure.Cause.TheVariants as cause
use Rattle.up_model.specs.declared.failure.End.{End}
use Rattle.up_model.specs.declared.failure.End.TheVariants.{Refused, Ended}
use Rattle.up_model.specs.declared.failure.EndRules.{EndRules}
use Rattle.up_model.specs.declared.failure.Failure.{Failure}
use Rattle.up_model.specs.declared.failure.Verdict.{Verdict}
use Rattle.up_model.specs.declared.failure.Verdict.TheVariants as verdict
use Rattle.up_model.specs.declared.process.How.{How}
use Rattle.up_model.specs.declared.process.How.TheVariants as how
use Rattle.up_model.specs.declared.state.Goal.{Goal}
use Rattle.up_model.specs.declared.state.Goal.TheVariants as goal
use Rattle.up_model.specs.declared.state.State.{State}
use Rattle.up_model.specs.declared.state.State.TheVariants as state
use Rattle.up_model.specs.Chronicle.{Chronicle, Entry, Aimed, Respawned, Failed}
use Rattle.up_model.specs.Clock.{now, may_respawn}
use Rattle.up_model.specs.Readings as read
use Rattle.up_model.specs.Replies.{releasing}
use Rattle.up_model.specs.Predicates.{is_start, entries_if}

-- the failure of a process
abbrev pub failure_of : Process → Option How → Failure
failure_of process how = record { cause = cause.Process process; how = how }

-- whether a process ended well
abbrev pub is_success : How → Bool
is_success (how.Exit status) = status == 0
is_success (how.Signal signal) = false

-- too many respawns (init(5), "respawn limit")
abbrev pub too_many : Failure
too_many = record { cause = cause.Respawn; how = None }

-- whether main is to be respawned, if it may be: its end isn't normal, and isn't the success of a task
abbrev pub is_respawned : How → EndRules → Bool
is_respawned its rules = rules.respawns && not rules.is_normal && not (rules.is_task && is_success its)

-- the end of main while it counts
abbrev pub judge_main : How → EndRules → Verdict
judge_main its rules =
    if is_respawned its rules then (if rules.may_respawn then verdict.Respawn else verdict.Fail too_many)
    else (if is_success its || rules.is_normal then verdict.Stop else verdict.Fail (failure_of Main (Some its)))

-- the end of another process whose failure counts: pre-start or post-stop
abbrev pub judge_other : Process → How → Verdict
judge_other process its = if is_success its then verdict.Note
    else verdict.Fail (failure_of process (Some its))

-- the states in which the end of main is judged
abbrev pub is_judged_in : State → Bool
is_judged_in state.PostStart = true
is_judged_in state.Running = true
is_judged_in state.PreStop = true
is_judged_in other = false

-- what an end does, by goal, state and process
abbrev pub judge : Goal → State → Process → End → EndRules → Verdict
judge aim now Main Refused rules = verdict.Fail (failure_of Main None)
judge aim now Main (Ended how) rules = if is_start aim && is_judged_in now then judge_main how rules else verdict.Note
judge aim now PreStart Refused rules = verdict.Fail (failure_of PreStart None)
judge aim now PreStart (Ended how) rules = judge_other PreStart how
judge aim now PostStart end rules = verdict.Note
judge aim now PreStop end rules = verdict.Note
judge aim now PostStop Refused rules = verdict.Fail (failure_of PostStop None)
judge aim now PostStop (Ended how) rules = judge_other PostStop how

-- the end of a process as job files name ends
abbrev pub exit_of : How → Exit
exit_of (how.Exit status) = exit.Status status
exit_of (how.Signal signal) = exit.Signal signal

-- whether an end is one of those that are normal for a job (init(5), "normal exit")
abbrev pub is_normal : List Exit → End → Bool
is_normal exits Refused = false
is_normal exits (Ended how) = list_any (same_exit (exit_of how)) exits

-- what decides on an end of main, by the file of its instance
abbrev pub rules_of : JobDef → ℕ → End → Chronicle → EndRules
rules_of job instance end c = record {
  is_task = job.task;
  respawns = job.respawn;
  is_normal = is_normal job.normal end;
  may_respawn = may_respawn job.limit instance c;
}

-- what an end does to an instance of a job
abbrev pub verdict_on_end : JobDef → ℕ → Process → End → Chronicle → Verdict
verdict_on_end job instance process end c =
    judge (read.goal instance c) (read.state_of instance c) process end (rules_of job instance end c)

-- the goal becomes stop, if it is start; the holders stay
abbrev pub end_itself : ℕ → Chronicle → List Entry
end_itself instance c =
    entries_if (is_start (read.goal instance c)) (Aimed instance goal.Stop [] (read.holders instance c) ∷ [])

-- a failure is kept, and the holders are released as failed
abbrev pub keep_failure : ℕ → Failure → Chronicle → List Entry
keep_failure instance failure c = releasing instance true (Failed instance failure ∷ c)
    ++ Failed instance failure ∷ []

-- an instance fails: its goal becomes stop, and the failure is kept if it is the first since the last start
abbrev pub fail : ℕ → Failure → Chronicle → List Entry
fail instance failure c =
    let ended = end_itself instance c in
    entries_if (not (is_some (read.failure instance c))) (keep_failure instance failure (ended ++ c)) ++ ended

-- what a verdict does
abbrev pub carry_out : ℕ → Verdict → Chronicle → List Entry
carry_out instance verdict.Note c = []
carry_out instance verdict.Respawn c = Respawned instance (now c) ∷ []
carry_out instance verdict.Stop c = end_itself instance c
carry_out instance (verdict.Fail failure) c = fail instance failure c
