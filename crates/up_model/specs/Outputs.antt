-- What the entries of a step ask for.
use Rattle.std.specs.Prelude.{ℕ, List, [], ◌∷◌, ◌++◌, Option, None, Some, codes}
use Rattle.up_stanza.specs.declared.action.Action.{Action}
use Rattle.up_stanza.specs.declared.action.Action.TheVariants.{Words, Shell}
use Rattle.up_stanza.specs.declared.process.Process.{Process}
use Rattle.up_stanza.specs.declared.process.Process.TheVariants.{Main}
use Rattle.up_conf.specs.declared.job.JobDef.{JobDef}
use Rattle.up_model.specs.declared.output.Output.{Output}
use Rattle.up_model.specs.declared.output.Output.TheVariants as output
use Rattle.up_model.specs.declared.request.Answer.{Answer}
use Rattle.up_model.specs.declared.who.Who.{Who}
use Rattle.up_model.specs.Chronicle.{Chronicle, Given, Queued, Ordered, Signalled, Replied, Entering, Spoilt}
use Rattle.up_model.specs.Moves.{action_of}
use Rattle.up_model.specs.Readings.{made_at, file_of, id_at, process_env, pid_of}
use Rattle.up_model.specs.Values.{Bytes, Bindings}

-- the words that run an action (init(5), "exec" and "script")
abbrev pub argv_of : Action → List Bytes
argv_of (Words words) = words
argv_of (Shell text) = codes "/bin/sh" ∷ codes "-e" ∷ codes "-c" ∷ text ∷ []

-- the folder in which a job's processes run: the root if it names none (init(5), "chdir")
abbrev pub dir_of : Bytes → Bytes
dir_of [] = codes "/"
dir_of (byte ∷ dir) = byte ∷ dir

-- the order for a process that runs this (init(5), "exec", "script", "chdir" and "console none")
abbrev pub order_for : JobDef → Who → Process → Option Action → Bindings → List Output
order_for job who its None environment = []
order_for job who its (Some action) environment =
    output.Spawn (record {
      who = who;
      process = its;
      argv = argv_of action;
      dir = dir_of job.dir;
      silent =
          job.silent;
      env = environment;
    }) ∷ []

abbrev pub order_by : Option JobDef → Option Who → Process → Bindings → List Output
order_by None who its environment = []
order_by (Some job) None its environment = []
order_by (Some job) (Some who) its environment = order_for job who its (action_of job its) environment

-- the order for a process of the instance that was made at a place, by its file
abbrev pub order_of : (instance : ℕ) → Process → Chronicle → List Output
order_of instance its c =
    order_by (file_of instance c) (made_at instance c) its (process_env instance its c)

-- a signal to a process, if it lives
abbrev pub signal_of : Option Who → (signal : ℕ) → Option ℕ → List Output
signal_of None signal pid = []
signal_of (Some who) signal None = []
signal_of (Some who) signal (Some pid) = output.Signal who pid signal ∷ []

-- the answer to a request, under its number
abbrev pub reply_of : Option ℕ → Answer → List Output
reply_of None answer = []
reply_of (Some id) answer = output.Reply id answer ∷ []

-- the starts, signals, events and replies of the last step, in order. The events of inputs are not among them
unfoldable pub outputs_of : Chronicle → List Output
outputs_of [] = []
outputs_of (Given input ∷ c) = []
outputs_of (Ordered instance its ∷ c) =
    outputs_of c ++ order_of instance its c
outputs_of (Signalled instance signal by_timer ∷ c) =
    outputs_of c ++ signal_of (made_at instance c) signal (pid_of instance Main c)
outputs_of (Queued (Entering instance state) event ∷ c) =
    outputs_of c ++ output.Emitted event ∷ []
outputs_of (Queued (Spoilt spoilt) event ∷ c) = outputs_of c ++ output.Emitted event ∷ []
outputs_of (Replied request answer ∷ c) = outputs_of c ++ reply_of (id_at request c) answer
outputs_of (entry ∷ c) = outputs_of c
