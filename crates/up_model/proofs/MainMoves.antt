-- A move keeps the rules by which no main is ordered while it lives.
use Rattle.up_model.proofs.Names.{◌≡◌, ℕ, Bool, true, false, not, List, [], ◌∷◌, ◌++◌, Option, None, Some}
use Rattle.up_model.proofs.Names.{if◌then◌else◌, refl, sym, ◌∙◌, ap, subst, ◌&&◌, ◌||◌, eq-eqb, AllByRecursion}
use Rattle.up_model.proofs.Names.{JobDef, Process, JobEvent, Goal, Start, Stop, State, Starting, Stopping, Waiting}
use Rattle.up_model.proofs.Names.{PostStart, Running, PreStop, Spawned, Killed, Who, Chronicle, Entry, Entered}
use Rattle.up_model.proofs.Names.{Ordered, Signalled, Configuration, instance_named, Instance, instances_of}
use Rattle.up_model.proofs.Names.{next_state, entering, wait_in, move_first, has_process, emitting, ordering}
use Rattle.up_model.proofs.Names.{enter, enter_whole, may_leave, next_of, who_of, move, move_of, move_in, is_over}
use Rattle.up_model.proofs.Names.{entries_if, or_else, same_process, file_of, goal, state_of, lives, is_awaited}
use Rattle.up_model.proofs.Names.{releasing, Bytes}
use Rattle.up_stanza.specs.declared.process.Process.TheVariants as process
use Rattle.up_model.specs.declared.life.EntryActions as table
use Rattle.up_model.specs.declared.state.State.TheVariants.{PreStart, PostStop}
use Rattle.up_model.proofs.BlockLaws.{five}
use Rattle.up_model.proofs.FileLaws.{HasFile, files, file_of-later}
use Rattle.up_model.proofs.NameLaws.{called, made-named, AreSingle}
use Rattle.up_model.proofs.Sparing.{all-if}
use Rattle.up_model.proofs.MainEntries.{may_live, has_main, Fits, Keeps, IsStill, releasing-still, stills-keep}
use Rattle.up_model.proofs.MainEntries.{entered-keeps, other-keeps, main-keeps}

-- what holds with and without some entries holds with those that a test lets in
pub if-keeps : (config : Configuration) (b : Bool) (es c : Chronicle) → Keeps (es ++ c) → Keeps c → Keeps (entries_if b es ++ c)
if-keeps config true es c some none = some
if-keeps config false es c some none = none

-- the first of two lists in which there is anything does what both do
pub or_else-keeps : (config : Configuration) (es others c : Chronicle) → Keeps (es ++ c) → Keeps (others ++ c) → Keeps (or_else es others ++ c)
or_else-keeps config [] others c some other = other
or_else-keeps config (e ∷ es) others c some other = some

-- killed is left when main has ended
abbrev Goes : State → (alive : Bool) → Type 0
Goes Killed alive = not alive ≡ true
Goes from alive = Unit {0}

goes : (job : JobDef) (p : ℕ) (from : State) (c : Chronicle) → is_over job p (wait_in from) c ≡ true → Goes from (lives p process.Main c)
goes job p Killed c over = over
goes job p from c over = tt

whole-lives : (b : Bool) → may_live (if b then Running else Stopping) ≡ true
whole-lives true = refl
whole-lives false = refl

-- a main that lives may do so in the next state
lived-next : (aim : Goal) (from : State) (has alive : Bool) → Goes from alive → (alive ≡ true → may_live from ≡ true) → alive ≡ true
    → may_live (next_state aim from has alive) ≡ true
lived-next aim from has false goes may so = cc
lived-next aim Killed has true goes may so = cc
lived-next aim Waiting has true goes may so = let no : false ≡ true = may refl in cc
lived-next aim Starting has true goes may so = let no : false ≡ true = may refl in cc
lived-next aim PreStart has true goes may so = let no : false ≡ true = may refl in cc
lived-next aim PostStop has true goes may so = let no : false ≡ true = may refl in cc
lived-next Start PostStart has true goes may so = whole-lives (not has || true)
lived-next Start PreStop has true goes may so = whole-lives (not has || true)
lived-next Start from has true goes may so = refl
lived-next Stop from has true goes may so = refl

-- spawned is entered from a state in which main doesn't live
abbrev is_spawned : State → Bool
is_spawned Spawned = true
is_spawned other = false

whole-apart : (b : Bool) → is_spawned (if b then Running else Stopping) ≡ false
whole-apart true = refl
whole-apart false = refl

spawned-apart : (aim : Goal) (from : State) (has : Bool) → may_live from ≡ true → is_spawned (next_state aim from has true) ≡ false
spawned-apart Start PreStart has may = cc
spawned-apart Start PostStart has may = whole-apart (not has || true)
spawned-apart Start PreStop has may = whole-apart (not has || true)
spawned-apart Start from has may = refl
spawned-apart Stop Waiting has may = refl
spawned-apart Stop from has may = refl

spawned-next : (aim : Goal) (from : State) (has alive : Bool) → (alive ≡ true → may_live from ≡ true) → next_state aim from has alive ≡ Spawned → alive ≡ false
spawned-next aim from has false may e = refl
spawned-next aim from has true may e = absurd (apart (is_spawned (next_state aim from has true)) (ap is_spawned e) (spawned-apart aim from has (may refl)))
  where
    apart : (b : Bool) → b ≡ true → b ≡ false → ⊥
    apart b is isnt = cc

not-both : (a b : Bool) → a ≡ true → b ≡ true → (not a || not b) ≡ true → ⊥
not-both true true e f h = cc
not-both true false e f h = cc
not-both false b e f h = cc

-- an instance that may leave its state doesn't await main
leave-idle : (config : Configuration) (job : JobDef) (p : ℕ) (c : Chronicle) → file_of p c ≡ Some job → Fits p c
    → may_leave job p c ≡ true → is_awaited p process.Main c ≡ false
leave-idle config job p c found fits may = by_case (is_awaited p process.Main c) refl
  where
    by_case : (b : Bool) → is_awaited p process.Main c ≡ b → b ≡ false
    by_case true so =
        let spawned : (state_of p c ≡ Spawned) × (has_main (file_of p c) ≡ true) = fits.asked so in
        let has : has_process job process.Main ≡ true = subst (λ o. has_main o ≡ true) found spawned.1 in
        absurd (not-both (has_process job process.Main) (is_awaited p process.Main c) has so (subst (λ from. is_over job p (wait_in from) c ≡ true) spawned.0 may))
    by_case false so = refl

-- the order for another process
other-order : (config : Configuration) (job : JobDef) (p : ℕ) (its : Process) (c : Chronicle) → same_process its process.Main ≡ false → Keeps c
    → Keeps (ordering job p (Some its) ++ c)
other-order config job p its c other keeps = if-keeps config (has_process job its) (Ordered p its ∷ []) c (other-keeps config p its c other keeps) keeps

-- the order on entering a state
order-keeps : (config : Configuration) (job : JobDef) (its : Who) (p : ℕ) (to from : State) (task : Bool) (c : Chronicle) → file_of p c ≡ Some job
    → state_of p c ≡ to → (to ≡ Spawned → (instance_named its c ≡ Some p) × (lives p process.Main c ≡ false)) → Keeps c
    → Keeps (ordering job p (entering to from task).orders ++ c)
order-keeps config job its p Spawned from task c found here ready keeps = by_case (has_process job process.Main) refl
  where
    by_case : (b : Bool) → has_process job process.Main ≡ b → Keeps (entries_if b (Ordered p process.Main ∷ []) ++ c)
    by_case true has = main-keeps config its p c (ready refl).0 here (ap has_main found ∙ has) (ready refl).1 keeps
    by_case false has = keeps
order-keeps config job its p PreStart from task c found here ready keeps = other-order config job p process.PreStart c refl keeps
order-keeps config job its p PostStart from task c found here ready keeps = other-order config job p process.PostStart c refl keeps
order-keeps config job its p PreStop from task c found here ready keeps = other-order config job p process.PreStop c refl keeps
order-keeps config job its p PostStop from task c found here ready keeps = other-order config job p process.PostStop c refl keeps
order-keeps config job its p to from task c found here ready keeps = keeps

emitting-still : (job : JobDef) (who : Who) (p : ℕ) (to : State) (kind : Option JobEvent) (c : Chronicle) → AllByRecursion IsStill (emitting job who p to kind c)
emitting-still job who p to None c = tt
emitting-still job who p to (Some kind) c = (tt, tt)

-- what an instance does on entering a state, after its order
enter-keeps : (config : Configuration) (job : JobDef) (who : Who) (p : ℕ) (to : State) (entry : table.EntryActions) (c : Chronicle)
    → Keeps (ordering job p entry.orders ++ Entered p to ∷ c) → Keeps (enter_whole job who p to entry c ++ c)
enter-keeps config job who p to entry c keeps =
    subst Keeps (sym (five releases signals emits orders (Entered p to ∷ []) c))
    (stills-keep config releases (signals ++ (emits ++ (orders ++ Entered p to ∷ c))) (all-if IsStill entry.releases (releasing p false (enter job who p to entry c ++ c)) (releasing-still p false (enter job who p to entry c ++ c)))
    (stills-keep config signals (emits ++ (orders ++ Entered p to ∷ c)) (all-if IsStill (entry.kills && lives p process.Main c) (Signalled p job.kill_signal false ∷ []) (tt, tt))
    (stills-keep config emits (orders ++ Entered p to ∷ c) (emitting-still job who p to entry.emits ((orders ++ Entered p to ∷ []) ++ c)) keeps)))
  where
    orders : List Entry
    orders = ordering job p entry.orders

    emits : List Entry
    emits = emitting job who p to entry.emits ((orders ++ Entered p to ∷ []) ++ c)

    signals : List Entry
    signals = entries_if (entry.kills && lives p process.Main c) (Signalled p job.kill_signal false ∷ [])

    releases : List Entry
    releases = entries_if entry.releases (releasing p false (enter job who p to entry c ++ c))

-- a move leaves the rules kept
move-keeps : (config : Configuration) (job : JobDef) (x : Instance) (c : Chronicle) → file_of x.place c ≡ Some job
    → instance_named (called job.name x.name) c ≡ Some x.place → may_leave job x.place c ≡ true → Keeps c → Keeps (move job x c ++ c)
move-keeps config job x c found there may keeps =
    enter-keeps config job (who_of job x) p to (entering to from job.task) c
    (order-keeps config job its p to from job.task (Entered p to ∷ c) (file_of-later p (Entered p to) c (made-named its p c there).0 ∙ found) (rw (eq-eqb p p refl) refl) ready
    (entered-keeps config p to c (leave-idle config job p c found fits may)
    (lived-next (goal p c) from (has_process job process.Main) (lives p process.Main c) (goes job p from c may) fits.alive) keeps))
  where
    p : ℕ
    p = x.place

    its : Who
    its = called job.name x.name

    from : State
    from = state_of p c

    to : State
    to = next_of job p c

    fits : Fits p c
    fits = keeps.fits its p there

    ready : to ≡ Spawned → (instance_named its (Entered p to ∷ c) ≡ Some p) × (lives p process.Main c ≡ false)
    ready e = (
      subst (λ to. instance_named its (Entered p to ∷ c) ≡ Some p) (sym e) there,
      spawned-next (goal p c) from (has_process job process.Main) (lives p process.Main c) fits.alive e,
    )

move_of-keeps : (config : Configuration) (job : JobDef) (x : Instance) (c : Chronicle) → file_of x.place c ≡ Some job
    → instance_named (called job.name x.name) c ≡ Some x.place → Keeps c → Keeps (move_of job x c ++ c)
move_of-keeps config job x c found there keeps = by_case (may_leave job x.place c) refl
  where
    by_case : (b : Bool) → may_leave job x.place c ≡ b → Keeps (entries_if b (move job x c) ++ c)
    by_case true may = move-keeps config job x c found there may keeps
    by_case false stays = keeps

move_in-keeps : (config : Configuration) (name : Bytes) (xs : List Instance) (c : Chronicle) → AllByRecursion (HasFile name c) xs
    → AreSingle (instances_of name c) xs → Keeps c → Keeps (move_in xs c ++ c)
move_in-keeps config name [] c has single keeps = keeps
move_in-keeps config name (x ∷ xs) c has single keeps =
    let there : instance_named (called x.file.name x.name) c ≡ Some x.place =
    subst (λ n. instance_named (called n x.name) c ≡ Some x.place) (sym has.0.2) single.0 in
    or_else-keeps config (move_of x.file x c) (move_in xs c) c (move_of-keeps config x.file x c has.0.1 there keeps)
    (move_in-keeps config name xs c has.1 single.1 keeps)

pub move_first-keeps : (config : Configuration) (names : List Bytes) (c : Chronicle) → Keeps c → Keeps (move_first names c ++ c)
move_first-keeps config [] c keeps = keeps
move_first-keeps config (name ∷ names) c keeps =
    or_else-keeps config (move_in (instances_of name c) c) (move_first names c) c
    (move_in-keeps config name (instances_of name c) c (files name c) (keeps.single name) keeps) (move_first-keeps config names c keeps)
