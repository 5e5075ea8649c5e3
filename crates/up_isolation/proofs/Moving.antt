-- Two instances that are alike move alike.
use Rattle.std.proofs.Common.{◌≡◌, ℕ, Bool, true, false, ◌&&◌, List, [], ◌∷◌, ◌++◌, Option, None, Some}
use Rattle.std.proofs.Common.{is_some, refl, ◌∙◌, ap, subst}
use Rattle.up_conf.specs.declared.job.JobDef.{JobDef}
use Rattle.up_stanza.specs.declared.process.Process.{Process}
use Rattle.up_stanza.specs.declared.process.Process.TheVariants.{Main}
use Rattle.up_model.specs.declared.state.State.{State}
use Rattle.up_model.specs.declared.state.State.TheVariants as state
use Rattle.up_model.specs.Chronicle.{Chronicle, Entry, Entered, Ordered, Signalled}
use Rattle.up_model.specs.Configuration.{Configuration}
use Rattle.up_model.specs.Instances.{Instance}
use Rattle.up_model.specs.Readings.{env}
use Rattle.up_model.specs.Values.{Bytes}
use Rattle.up_isolation.proofs.Lives.{Life, life}
use Rattle.up_isolation.proofs.Pairs.{Pair, Carries, carries-none}
use Rattle.std.proofs.Common.{not, ◌||◌}
use Rattle.up_model.specs.declared.life.EntryActions as table
use Rattle.up_model.specs.declared.life.JobEvent.{JobEvent}
use Rattle.up_model.specs.Events.{life_event, exporting}
use Rattle.up_model.specs.Life.{Wait, ForStart, ForEvent, ForAnswer, ForProcess, ForChange, ForMain, wait_in}
use Rattle.up_model.specs.Life.{next_state, entering}
use Rattle.up_model.specs.Moves.{has_process, who_of, job_event, emitting, ordering, enter, enter_whole}
use Rattle.up_model.specs.Moves.{is_over, may_leave, next_of, move}
use Rattle.up_model.specs.Predicates.{is_start, entries_if}
use Rattle.up_model.specs.Readings.{state_of, failure, lives}
use Rattle.up_model.specs.Replies.{releasing}
use Rattle.up_isolation.proofs.Others.{pair_waiting}
use Rattle.up_isolation.proofs.Entries.{pair_entered, pair_ordered, pair_queued, pair_signalled}
use Rattle.up_isolation.proofs.Releases.{carries-append, pair_releasing}

-- whether they may leave their states
over-same : (def : JobDef) (w : Wait) (i j : ℕ) (c d : Chronicle) → life i c ≡ life j d
    → is_over def i w c ≡ is_over def j w d
over-same def ForStart i j c d same = ap (λ (l : Life). is_start l.goal) same
over-same def ForEvent i j c d same = ap (λ (l : Life). not l.blocked) same
over-same def (ForAnswer its) i j c d same =
    ap (λ (l : Life). not (has_process def its) || not (l.awaited its)) same
over-same def (ForProcess its) i j c d same =
    ap (λ (l : Life). not (has_process def its) || not (l.awaited its || is_some (l.pid its))) same
over-same def ForChange i j c d same =
    ap (λ (l : Life). not (is_start l.goal) || l.restarted ||
    (has_process def Main && not (is_some (l.pid Main)))) same
over-same def ForMain i j c d same = ap (λ (l : Life). not (is_some (l.pid Main))) same

pub leave-same : (def : JobDef) (i j : ℕ) (c d : Chronicle) → life i c ≡ life j d
    → may_leave def i c ≡ may_leave def j d
leave-same def i j c d same =
    over-same def (wait_in (state_of i c)) i j c d same ∙ ap (λ (l : Life). is_over def j (wait_in l.state) d)
    same

pair_enters : (job : Bytes) (config : Configuration) (c d : Chronicle) (x y : Instance) (to : State)
    → Pair job config c d x y
    → Carries job config c d (Entered x.place to ∷ c) (Entered y.place to ∷ d) x y
pair_enters job config c d x y state.Waiting pair = pair_waiting job config c d x y pair
pair_enters job config c d x y to pair = pair_entered job config c d x y to tt pair

-- entries that a test lets in
pub pair_if : (job : Bytes) (config : Configuration) (c d : Chronicle) (x y : Instance) (b a : Bool)
    (es fs : List Entry) → b ≡ a → Pair job config c d x y
    → Carries job config c d (es ++ c) (fs ++ d) x y
    → Carries job config c d (entries_if b es ++ c) (entries_if a fs ++ d) x y
pair_if job config c d x y true true es fs same pair carries = carries
pair_if job config c d x y false false es fs same pair carries = carries-none job config c d x y pair
pair_if job config c d x y true false es fs same pair carries = absurd (cc)
pair_if job config c d x y false true es fs same pair carries = absurd (cc)

pair_ordering : (job : Bytes) (config : Configuration) (def : JobDef) (c d : Chronicle) (x y : Instance)
    (o : Option Process) → Pair job config c d x y
    → Carries job config c d (ordering def x.place o ++ c) (ordering def y.place o ++ d) x y
pair_ordering job config def c d x y None pair = carries-none job config c d x y pair
pair_ordering job config def c d x y (Some its) pair =
    pair_if job config c d x y (has_process def its) (has_process def its) (Ordered x.place its ∷ [])
    (Ordered y.place its ∷ []) refl pair (pair_ordered job config c d x y its pair)

event-same : (job : Bytes) (config : Configuration) (def : JobDef) (c d : Chronicle) (x y : Instance)
    (kind : JobEvent) → Pair job config c d x y
    → job_event def (who_of def x) x.place kind c ≡ job_event def (who_of def y) y.place kind d
event-same job config def c d x y kind pair =
    ap (λ (l : Life). exporting l.env def.export (life_event kind (who_of def x) l.failure))
    pair.twin.bond.alike
    ∙ ap (λ name. exporting (env y.place d) def.export
    (life_event kind (record { job = def.name; instance = name }) (failure y.place d))) pair.twin.name

pair_emitting : (job : Bytes) (config : Configuration) (def : JobDef) (c d : Chronicle) (x y : Instance)
    (to : State) (o : Option JobEvent) → Pair job config c d x y
    → Carries job config c d (emitting def (who_of def x) x.place to o c ++ c)
    (emitting def (who_of def y) y.place to o d ++ d) x y
pair_emitting job config def c d x y to None pair = carries-none job config c d x y pair
pair_emitting job config def c d x y to (Some kind) pair =
    pair_queued job config c d x y to (job_event def (who_of def x) x.place kind c)
    (job_event def (who_of def y) y.place kind d) (event-same job config def c d x y kind pair) pair

-- they enter a state, but for what they release
pair_enter : (job : Bytes) (config : Configuration) (def : JobDef) (c d : Chronicle) (x y : Instance)
    (to : State) (entry : table.EntryActions) → Pair job config c d x y
    → Carries job config c d (enter def (who_of def x) x.place to entry c ++ c)
    (enter def (who_of def y) y.place to entry d ++ d) x y
pair_enter job config def c d x y to entry pair =
    carries-append job config c d x y signals (emitting def (who_of def x) x.place to entry.emits (one ++ c)
    ++ one) signals_there
    (emitting def (who_of def y) y.place to entry.emits (other ++ d) ++ other)
    (carries-append job config c d x y (emitting def (who_of def x) x.place to entry.emits (one ++ c)) one
    (emitting def (who_of def y) y.place to entry.emits (other ++ d)) other
    (carries-append job config c d x y (ordering def x.place entry.orders) (Entered x.place to ∷ [])
    (ordering def y.place entry.orders) (Entered y.place to ∷ [])
    (pair_enters job config c d x y to pair) (λ next. pair_ordering job config def (Entered x.place to ∷ c)
    (Entered y.place to ∷ d) x y entry.orders next))
    (λ next. pair_emitting job config def (one ++ c) (other ++ d) x y to entry.emits next))
    (λ next. pair_if job config _ _ x y (entry.kills && lives x.place Main c)
    (entry.kills && lives y.place Main d) (Signalled x.place def.kill_signal false ∷ [])
    (Signalled y.place def.kill_signal false ∷ [])
    (ap (λ (l : Life). entry.kills && is_some (l.pid Main)) pair.twin.bond.alike) next
    (pair_signalled job config _ _ x y def.kill_signal false next))
  where
    one : List Entry
    one = ordering def x.place entry.orders ++ Entered x.place to ∷ []

    other : List Entry
    other = ordering def y.place entry.orders ++ Entered y.place to ∷ []

    signals : List Entry
    signals = entries_if (entry.kills && lives x.place Main c) (Signalled x.place def.kill_signal false ∷ [])

    signals_there : List Entry
    signals_there =
        entries_if (entry.kills && lives y.place Main d) (Signalled y.place def.kill_signal false ∷ [])

pair_enter_whole : (job : Bytes) (config : Configuration) (def : JobDef) (c d : Chronicle) (x y : Instance)
    (to : State) (entry : table.EntryActions) → Pair job config c d x y
    → Carries job config c d (enter_whole def (who_of def x) x.place to entry c ++ c)
    (enter_whole def (who_of def y) y.place to entry d ++ d) x y
pair_enter_whole job config def c d x y to entry pair =
    carries-append job config c d x y (entries_if entry.releases (releasing x.place false (one ++ c))) one
    (entries_if entry.releases (releasing y.place false (other ++ d))) other
    (pair_enter job config def c d x y to entry pair)
    (λ next. pair_if job config (one ++ c) (other ++ d) x y entry.releases entry.releases
    (releasing x.place false (one ++ c)) (releasing y.place false (other ++ d)) refl next
    (pair_releasing job config (one ++ c) (other ++ d) x y false next))
  where
    one : List Entry
    one = enter def (who_of def x) x.place to entry c

    other : List Entry
    other = enter def (who_of def y) y.place to entry d

-- a move
pub pair_move : (job : Bytes) (config : Configuration) (def : JobDef) (c d : Chronicle) (x y : Instance)
    → Pair job config c d x y
    → Carries job config c d (move def x c ++ c) (move def y d ++ d) x y
pair_move job config def c d x y pair =
    subst (λ (es : List Entry). Carries job config c d (move def x c ++ c) (es ++ d) x y) same
    (pair_enter_whole job config def c d x y to (entering to (state_of x.place c) def.task) pair)
  where
    to : State
    to = next_of def x.place c

    same : enter_whole def (who_of def y) y.place to (entering to (state_of x.place c) def.task) d
        ≡ move def y d
    same =
        ap (λ (l : Life). enter_whole def (who_of def y) y.place
        (next_state l.goal l.state (has_process def Main) (is_some (l.pid Main)))
        (entering (next_state l.goal l.state (has_process def Main) (is_some (l.pid Main))) l.state def.task)
        d) pair.twin.bond.alike
