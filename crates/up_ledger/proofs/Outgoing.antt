-- What is put out at an entry, by what is kept.
use Rattle.std.proofs.Common.{◌≡◌, ℕ, Bool, [], ◌∷◌, ◌++◌, Option, None, Some, refl, sym, ◌∙◌, ap}
use Rattle.up_job.specs.Lists.{nth}
use Rattle.up_conf.specs.declared.job.JobDef.{JobDef}
use Rattle.up_stanza.specs.declared.process.Process.{Process}
use Rattle.up_model.specs.declared.event.Event.{Event}
use Rattle.up_model.specs.declared.input.Input.{Input}
use Rattle.up_model.specs.declared.output.Output.TheVariants as output
use Rattle.up_model.specs.declared.state.State.{State}
use Rattle.up_model.specs.Chronicle.{Chronicle, Entry, Given, Queued, Ordered, Signalled, Replied, Outside, Entering, Spoilt}
use Rattle.up_model.specs.Configuration.{Configuration}
use Rattle.up_model.specs.Instances.{Instance, instances_of}
use Rattle.up_model.specs.Outputs.{outputs_of}
use Rattle.up_model.specs.Readings.{made_at}
use Rattle.up_model.specs.Replies.{status_of, own_process, pid_if}
use Rattle.up_job.specs.declared.child.Child.{Child}
use Rattle.up_book.specs.Summaries.{summary, works_at}
use Rattle.up_ledger.proofs.Knowing.{work-known}
use Rattle.up_model.proofs.FileLaws.{HasFile, files}
use Rattle.up_book.proofs.One.{IsKnown, known-all, called, nth-all}
use Rattle.up_book.specs.Sending.{order_by, signal_by, own_pid, status_by}

pub made-there : (at : ℕ) (job : JobDef) (x : Instance) (c : Chronicle) → nth at (instances_of job.name c) ≡ Some x → made_at x.place c ≡ Some (called job.name x.name)
made-there at job x c here =
    let its = nth-all (IsKnown job.name c) at (instances_of job.name c) x here (known-all job.name c) in
    its.1

-- an order
pub ordered-out : (c : Chronicle) (at : ℕ) (job : JobDef) (x : Instance) (its : Process) → nth at (instances_of job.name c) ≡ Some x
    → outputs_of (Ordered x.place its ∷ c) ≡ outputs_of c ++ order_by x.file (summary c x) its
unfolding outputs_of
ordered-out c at job x its here =
    let has = nth-all (HasFile job.name c) at (instances_of job.name c) x here (files job.name c) in
    let made : made_at x.place c ≡ Some (called x.file.name x.name) = made-there at job x c here ∙ ap (λ name. Some (called name x.name)) (sym has.2) in
    rw (made, has.1) refl

-- a signal
pub signalled-out : (config : Configuration) (c : Chronicle) (at : ℕ) (job : JobDef) (x : Instance) (signal : ℕ) (by_timer : Bool)
    → nth at (instances_of job.name c) ≡ Some x → outputs_of (Signalled x.place signal by_timer ∷ c) ≡ outputs_of c ++ signal_by job (summary c x) signal
unfolding outputs_of
signalled-out config c at job x signal by_timer here = rw (made-there at job x c here) refl

-- an event of an instance's life, and which that is
pub entering-out : (config : Configuration) (c : Chronicle) (i : ℕ) (entered : State) (event : Event) → outputs_of (Queued (Entering i entered) event ∷ c) ≡ outputs_of c ++ output.Emitted event ∷ []
unfolding outputs_of
entering-out config c i entered event = refl

-- an event that tells of another
pub spoilt-out : (config : Configuration) (c : Chronicle) (spoilt : ℕ) (event : Event) → outputs_of (Queued (Spoilt spoilt) event ∷ c) ≡ outputs_of c ++ output.Emitted event ∷ []
unfolding outputs_of
spoilt-out config c spoilt event = refl

-- an input begins anew
pub given-out : (config : Configuration) (c : Chronicle) (given : Input) → outputs_of (Given given ∷ c) ≡ []
unfolding outputs_of
given-out config c given = refl

-- and any other entry puts out nothing
abbrev pub IsSilent : Entry → Type 0
IsSilent (Given input) = ⊥
IsSilent (Queued (Entering i entered) event) = ⊥
IsSilent (Queued (Spoilt spoilt) event) = ⊥
IsSilent (Ordered i its) = ⊥
IsSilent (Signalled i signal by_timer) = ⊥
IsSilent (Replied request answer) = ⊥
IsSilent entry = Unit {0}

pub silent-out : (config : Configuration) (c : Chronicle) (e : Entry) → IsSilent e → outputs_of (e ∷ c) ≡ outputs_of c
unfolding outputs_of
silent-out config c (Given input) is = absurd is
silent-out config c (Queued (Entering i entered) event) is = absurd is
silent-out config c (Queued (Spoilt spoilt) event) is = absurd is
silent-out config c (Queued (Outside given) event) is = refl
silent-out config c (Ordered i its) is = absurd is
silent-out config c (Signalled i signal by_timer) is = absurd is
silent-out config c (Replied request answer) is = absurd is
silent-out config c e is = refl

-- the status text
pid-own : (o : Option Process) (i : ℕ) (c : Chronicle) → pid_if i o c ≡ own_pid o (works_at i c)
pid-own None i c = refl
pid-own (Some its) i c = sym (ap (λ (w : Child). w.pid) (work-known its i c))

pub status-known : (config : Configuration) (c : Chronicle) (at : ℕ) (job : JobDef) (x : Instance) → nth at (instances_of job.name c) ≡ Some x → status_of x.place c ≡ status_by job (summary c x)
status-known config c at job x here = rw (made-there at job x c here, pid-own (own_process (Rattle.up_model.specs.Readings.state_of x.place c)) x.place c) refl
