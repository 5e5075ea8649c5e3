-- Ends and refusals of processes.
use Rattle.std.proofs.Common.{◌≡◌, ℕ, Bool, true, false, List, [], ◌∷◌, ◌++◌, Option, None, Some, is_some}
use Rattle.std.proofs.Common.{refl, sym, ap, ap₂, subst}
use Rattle.std.specs.List.{AllByRecursion}
use Rattle.up_conf.specs.declared.job.JobDef.{JobDef}
use Rattle.up_stanza.specs.declared.process.Process.{Process}
use Rattle.up_model.specs.Chronicle.{Chronicle, Entry, Given, Handled, Offered, Fired, Finished, Aimed}
use Rattle.up_model.specs.Chronicle.{Failed, Respawned, Loaded}
use Rattle.up_model.specs.Clock.{now}
use Rattle.up_model.specs.Configuration.{Configuration}
use Rattle.up_model.specs.Instances.{Instance}
use Rattle.up_model.specs.Readings.{holders}
use Rattle.up_model.specs.Values.{Bytes}
use Rattle.up_isolation.proofs.Lives.{Life, life}
use Rattle.up_isolation.proofs.Likes.{Like, Fair, fair_more}
use Rattle.up_isolation.proofs.Pairs.{Pair, Carries, carries-none}
use Rattle.std.proofs.Common.{append_assoc, not, nat_lt, ◌||◌}
use Rattle.up_stanza.specs.declared.limit.Limit.{Limit}
use Rattle.up_model.specs.declared.failure.End.{End}
use Rattle.up_model.specs.declared.failure.Failure.{Failure}
use Rattle.up_model.specs.declared.failure.Verdict.{Verdict}
use Rattle.up_model.specs.declared.failure.Verdict.TheVariants as verdict
use Rattle.up_model.specs.declared.state.Goal.TheVariants.{Stop}
use Rattle.up_model.specs.Clock.{milliseconds, is_unlimited, may_respawn}
use Rattle.up_model.specs.Due.{end_of}
use Rattle.up_model.specs.Judgement.{judge, is_normal, verdict_on_end, end_itself, keep_failure, fail}
use Rattle.up_model.specs.Judgement.{carry_out}
use Rattle.up_model.specs.Predicates.{is_start, entries_if}
use Rattle.up_model.specs.Readings.{goal, failure}
use Rattle.up_model.specs.Replies.{releasing}
use Rattle.up_model.proofs.Sparing.{all-append, all-if}
use Rattle.up_model.proofs.ReplyLaws.{releasing-all}
use Rattle.up_isolation.proofs.Likes.{IsOther, IsForeign, foreign-fair}
use Rattle.up_isolation.proofs.Pairs.{pair_failed, pair_respawned}
use Rattle.up_isolation.proofs.Entries.{pair_aimed}
use Rattle.up_isolation.proofs.Moving.{pair_if}
use Rattle.up_isolation.proofs.Releases.{carries-append, pair_releasing}
use Rattle.up_isolation.proofs.Foreign.{other-later, strange-releasing}
use Rattle.up_isolation.proofs.Resting.{AreApart, strange-apart}

pair_end_itself : (job : Bytes) (config : Configuration) (c d : Chronicle) (x y : Instance)
    → Pair job config c d x y
    → Carries job config c d (end_itself x.place c ++ c) (end_itself y.place d ++ d) x y
pair_end_itself job config c d x y pair =
    pair_if job config c d x y (is_start (goal x.place c)) (is_start (goal y.place d))
    (Aimed x.place Stop [] (holders x.place c) ∷ []) (Aimed y.place Stop [] (holders y.place d) ∷ [])
    (ap (λ (l : Life). is_start l.goal) pair.twin.bond.alike) pair
    (pair_aimed job config c d x y Stop [] (holders x.place c) (holders y.place d) pair.twin.bond.held
    pair.twin.bond.older pair.twin.bond.older_there pair)

pair_keep : (job : Bytes) (config : Configuration) (c d : Chronicle) (x y : Instance) (its : Failure)
    → Pair job config c d x y
    → Carries job config c d (keep_failure x.place its c ++ c) (keep_failure y.place its d ++ d) x y
pair_keep job config c d x y its pair =
    carries-append job config c d x y (releasing x.place true (Failed x.place its ∷ c))
    (Failed x.place its ∷ []) (releasing y.place true (Failed y.place its ∷ d)) (Failed y.place its ∷ [])
    (pair_failed job config c d x y its pair) (λ next. pair_releasing job config (Failed x.place its ∷ c)
    (Failed y.place its ∷ d) x y true next)

pair_fail : (job : Bytes) (config : Configuration) (c d : Chronicle) (x y : Instance) (its : Failure)
    → Pair job config c d x y
    → Carries job config c d (fail x.place its c ++ c) (fail y.place its d ++ d) x y
pair_fail job config c d x y its pair =
    carries-append job config c d x y
    (entries_if (not (is_some (failure x.place c)))
    (keep_failure x.place its (end_itself x.place c ++ c))) (end_itself x.place c)
    (entries_if (not (is_some (failure y.place d))) (keep_failure y.place its (end_itself y.place d ++ d)))
    (end_itself y.place d)
    (pair_end_itself job config c d x y pair)
    (λ next. pair_if job config (end_itself x.place c ++ c) (end_itself y.place d ++ d) x y
    (not (is_some (failure x.place c))) (not (is_some (failure y.place d)))
    (keep_failure x.place its (end_itself x.place c ++ c))
    (keep_failure y.place its (end_itself y.place d ++ d))
    (ap (λ (l : Life). not (is_some l.failure)) pair.twin.bond.alike) next
    (pair_keep job config (end_itself x.place c ++ c) (end_itself y.place d ++ d) x y its next))

pair_carry : (job : Bytes) (config : Configuration) (c d : Chronicle) (x y : Instance) (v : Verdict)
    → Pair job config c d x y
    → Carries job config c d (carry_out x.place v c ++ c) (carry_out y.place v d ++ d) x y
pair_carry job config c d x y verdict.Note pair = carries-none job config c d x y pair
pair_carry job config c d x y verdict.Respawn pair =
    subst (λ moment. Carries job config c d (Respawned x.place (now c) ∷ c) (Respawned y.place moment ∷ d) x
    y) pair.like.today (pair_respawned job config c d x y (now c) pair)
pair_carry job config c d x y verdict.Stop pair = pair_end_itself job config c d x y pair
pair_carry job config c d x y (verdict.Fail its) pair = pair_fail job config c d x y its pair

may-same : (limit : Limit) (i j : ℕ) (c d : Chronicle) → life i c ≡ life j d → now c ≡ now d
    → may_respawn limit i c ≡ may_respawn limit j d
may-same limit i j c d same today =
    ap₂ (λ (l : Life) n. is_unlimited limit || nat_lt (l.respawns n (milliseconds limit.interval))
    limit.count) same today

verdict-same : (def : JobDef) (i j : ℕ) (its : Process) (end : End) (c d : Chronicle) → life i c ≡ life j d
    → now c ≡ now d → verdict_on_end def i its end c ≡ verdict_on_end def j its end d
verdict-same def i j its end c d same today =
    ap₂ (λ (l : Life) may. judge l.goal l.state its end
    (record { is_task = def.task; respawns = def.respawn; is_normal = is_normal def.normal end; may_respawn = may }))
    same (may-same def.limit i j c d same today)

pub pair_end : (job : Bytes) (config : Configuration) (def : Option JobDef) (c d : Chronicle) (x y : Instance)
    (its : Process) (end : End) → Pair job config c d x y
    → Like job config (end_of def (Some x.place) its end c ++ c) (end_of def (Some y.place) its end d ++ d)
pair_end job config None c d x y its end pair = pair.like
pair_end job config (Some def) c d x y its end pair =
    subst (λ v. Like job config (carry_out x.place (verdict_on_end def x.place its end c) c ++ c)
    (carry_out y.place v d ++ d))
    (verdict-same def x.place y.place its end c d pair.twin.bond.alike pair.like.today)
    (pair_carry job config c d x y (verdict_on_end def x.place its end c) pair).pair.like

-- an end of another job's
pub apart-append : (job : Bytes) (config : Configuration) (es fs c : List Entry)
    → AreApart job config es (fs ++ c) → AreApart job config fs c → AreApart job config (es ++ fs) c
apart-append job config [] fs c are other = other
apart-append job config (e ∷ es) fs c are other = (
  subst (λ t. IsForeign job config e t)
      (sym (append_assoc es fs c)) are.0,
  apart-append job config es fs c are.1 other,
)

pub apart-if : (job : Bytes) (config : Configuration) (b : Bool) (es : List Entry) (c : Chronicle)
    → AreApart job config es c → AreApart job config (entries_if b es) c
apart-if job config true es c are = are
apart-if job config false es c are = tt

pub fair-apart : (job : Bytes) (config : Configuration) (es : List Entry) (c : Chronicle)
    → AreApart job config es c → Fair job c → Fair job (es ++ c)
fair-apart job config [] c are fair = fair
fair-apart job config (e ∷ es) c are fair = fair_more job e (es ++ c) (fair-apart job config es c are.1 fair)
    (foreign-fair job config e (es ++ c) are.0)

apart-end_itself : (job : Bytes) (config : Configuration) (i : ℕ) (c : Chronicle) → Fair job c
    → IsOther job i c → AreApart job config (end_itself i c) c
apart-end_itself job config i c fair other =
    apart-if job config (is_start (goal i c)) (Aimed i Stop [] (holders i c) ∷ []) c
    ((other, fair.holders i other.0), tt)

apart-carry : (job : Bytes) (config : Configuration) (i : ℕ) (v : Verdict) (c : Chronicle) → Fair job c
    → IsOther job i c → AreApart job config (carry_out i v c) c
apart-carry job config i verdict.Note c fair other = tt
apart-carry job config i verdict.Respawn c fair other = (other, tt)
apart-carry job config i verdict.Stop c fair other = apart-end_itself job config i c fair other
apart-carry job config i (verdict.Fail its) c fair other =
    apart-append job config (entries_if (not (is_some (failure i c))) (keep_failure i its (ended ++ c))) ended
    c
    (apart-if job config (not (is_some (failure i c))) (keep_failure i its (ended ++ c)) (ended ++ c)
    (apart-append job config (releasing i true (Failed i its ∷ ended ++ c)) (Failed i its ∷ []) (ended ++ c)
    (strange-apart job config (releasing i true (Failed i its ∷ ended ++ c)) (Failed i its ∷ ended ++ c)
    (strange-releasing job i true (Failed i its ∷ ended ++ c)
    (fair_more job (Failed i its) (ended ++ c) (fair-apart job config ended c first fair) tt)
    (other-later job i (Failed i its ∷ ended) c other).0)) (other-later job i ended c other, tt))) first
  where
    ended : List Entry
    ended = end_itself i c

    first : AreApart job config ended c
    first = apart-end_itself job config i c fair other

pub apart-end : (job : Bytes) (config : Configuration) (def : Option JobDef) (o : Option ℕ) (its : Process)
    (end : End) (c : Chronicle) → Fair job c → ((i : ℕ) → o ≡ Some i → IsOther job i c)
    → AreApart job config (end_of def o its end c) c
apart-end job config None o its end c fair other = tt
apart-end job config (Some def) None its end c fair other = tt
apart-end job config (Some def) (Some i) its end c fair other =
    apart-carry job config i (verdict_on_end def i its end c) c fair (other i refl)

-- its entries are none that a step begins with
abbrev pub IsMute : Entry → Type 0
IsMute (Given given) = ⊥
IsMute (Handled event) = ⊥
IsMute (Finished event) = ⊥
IsMute (Offered expression event) = ⊥
IsMute (Fired expression taken) = ⊥
IsMute (Loaded jobs) = ⊥
IsMute e = Unit {0}

mute-end_itself : (i : ℕ) (c : Chronicle) → AllByRecursion IsMute (end_itself i c)
mute-end_itself i c = all-if IsMute (is_start (goal i c)) (Aimed i Stop [] (holders i c) ∷ []) (tt, tt)

pub mute-end : (def : Option JobDef) (o : Option ℕ) (its : Process) (end : End) (c : Chronicle)
    → AllByRecursion IsMute (end_of def o its end c)
mute-end None o its end c = tt
mute-end (Some def) None its end c = tt
mute-end (Some def) (Some i) its end c = by_verdict (verdict_on_end def i its end c)
  where
    by_verdict : (v : Verdict) → AllByRecursion IsMute (carry_out i v c)
    by_verdict verdict.Note = tt
    by_verdict verdict.Respawn = (tt, tt)
    by_verdict verdict.Stop = mute-end_itself i c
    by_verdict (verdict.Fail its) =
        all-append IsMute (entries_if (not (is_some (failure i c)))
        (keep_failure i its (end_itself i c ++ c))) (end_itself i c)
        (all-if IsMute (not (is_some (failure i c))) (keep_failure i its (end_itself i c ++ c))
        (all-append IsMute (releasing i true (Failed i its ∷ end_itself i c ++ c)) (Failed i its ∷ [])
        (releasing-all IsMute (λ request answer. tt) i true tt (Failed i its ∷ end_itself i c ++ c))
        (tt, tt)))
        (mute-end_itself i c)
