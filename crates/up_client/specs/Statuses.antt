-- The statuses of the program (initctl(8), EXIT STATUS).
use Rattle.std.specs.Prelude.{◌≡◌, ◌⊎◌, false, Result, Ok, Err, alloc_error}
use Rattle.std.specs.declared.alloc.AllocError.{AllocError}
use Rattle.up_client.specs.declared.talk.TalkFault.{TalkFault}
use Rattle.up_client.specs.declared.talk.TalkFault.TheVariants.{Lost, Memory as OutOfMemory}
use Rattle.up_model.specs.declared.exit_status.ExitStatus.{ExitStatus}
use Rattle.up_model.specs.declared.exit_status.ExitStatus.TheVariants.{Done, Failed, Usage, Memory}
use Rattle.up_model.specs.declared.request.Answer.{Answer}

-- done, or failed
abbrev pub IsOutcome : ExitStatus → Type 0
IsOutcome status = (status ≡ Done) ⊎ (status ≡ Failed)

-- an outcome, or a usage fault
abbrev pub IsEnd : ExitStatus → Type 0
IsEnd status = IsOutcome status ⊎ (status ≡ Usage)

-- one of these, or out of memory
abbrev pub IsStatus : ExitStatus → Type 0
IsStatus status = IsEnd status ⊎ (status ≡ Memory)

-- a talk ends so: a request that was answered as failed, and one that wasn't answered, have failed
abbrev pub Concludes : Result Answer TalkFault → Result ExitStatus AllocError → Type 0
Concludes (Ok answer) result = answer.ok ≡ false → result ≡ Ok Failed
Concludes (Err Lost) result = result ≡ Ok Failed
Concludes (Err OutOfMemory) result = result ≡ Err alloc_error
