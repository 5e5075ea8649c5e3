-- A move has entries.
use Rattle.std.proofs.Common.{◌≡◌, ◌&&◌, false, true, [], ◌∷◌, ◌++◌}
use Rattle.up_conf.specs.declared.job.JobDef.{JobDef}
use Rattle.up_cascade.proofs.Entries.{filled_five}
use Rattle.up_model.specs.declared.life.EntryActions as life
use Rattle.up_model.specs.declared.state.State.{State}
use Rattle.up_model.specs.declared.who.Who.{Who}
use Rattle.up_stanza.specs.declared.process.Process.TheVariants.{Main}
use Rattle.up_model.specs.Chronicle.{Chronicle, Entered, Signalled}
use Rattle.up_model.specs.Instances.{Instance}
use Rattle.up_model.specs.Moves.{move, enter, who_of, next_of, emitting, ordering}
use Rattle.up_model.specs.Life.{entering}
use Rattle.up_model.specs.Readings.{state_of, lives}
use Rattle.up_model.specs.Replies.{releasing}
use Rattle.up_model.specs.Predicates.{entries_if}
use Rattle.up_text.specs.Scripts.{is_filled}

pub filled_move : (job : JobDef) (instance : Instance) (c : Chronicle) → is_filled (move job instance c) ≡ true
filled_move job instance c =
    filled_five (entries_if table.releases (releasing instance.place false (enter job who instance.place to table c ++ c))) (entries_if (table.kills && lives instance.place Main c) (Signalled instance.place job.kill_signal false ∷ []))
    (emitting job who instance.place to table.emits ((ordering job instance.place table.orders ++ Entered instance.place to ∷ []) ++ c)) (ordering job instance.place table.orders) (Entered instance.place to)
  where
    who : Who
    who = who_of job instance

    to : State
    to = next_of job instance.place c

    table : life.EntryActions
    table = entering to (state_of instance.place c) job.task
