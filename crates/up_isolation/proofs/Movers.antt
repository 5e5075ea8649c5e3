-- The first move: of another job's instance, or of the two that stand side by side.
use Rattle.std.proofs.Common.{◌≡◌, inl, inr, Bool, true, false, ◌&&◌, List, [], ◌∷◌, ◌++◌, if◌then◌else◌}
use Rattle.std.proofs.Common.{bytes_eq, refl, sym, ◌∙◌, ap, subst, subst₂}
use Rattle.std.specs.List.{AllByRecursion}
use Rattle.up_conf.specs.declared.job.JobDef.{JobDef}
use Rattle.up_stanza.specs.declared.process.Process.TheVariants.{Main}
use Rattle.up_model.specs.declared.state.State.{State}
use Rattle.up_model.specs.Chronicle.{Chronicle, Entry, Entered, Signalled}
use Rattle.up_model.specs.Configuration.{Configuration}
use Rattle.up_model.specs.Files.{job_names}
use Rattle.up_model.specs.Instances.{Instance, instances_of}
use Rattle.up_model.specs.Values.{Bytes}
use Rattle.up_model.proofs.Places.{bytes_same}
use Rattle.up_isolation.specs.Views.{is_of}
use Rattle.up_isolation.proofs.Twins.{Twins}
use Rattle.up_isolation.proofs.Known.{IsKnown}
use Rattle.up_isolation.proofs.Likes.{Twin, Like, Fair, only}
use Rattle.std.proofs.Common.{append_assoc}
use Rattle.up_model.specs.declared.life.EntryActions as table
use Rattle.up_model.specs.Life.{entering}
use Rattle.up_model.specs.Moves.{who_of, emitting, ordering, enter, may_leave, next_of, move, move_of}
use Rattle.up_model.specs.Moves.{move_in, move_first}
use Rattle.up_model.specs.Predicates.{entries_if, or_else}
use Rattle.up_model.specs.Readings.{state_of, lives}
use Rattle.up_model.specs.Replies.{releasing}
use Rattle.up_isolation.proofs.Twins.{At}
use Rattle.up_isolation.proofs.Known.{known}
use Rattle.up_isolation.proofs.Moving.{leave-same}
use Rattle.up_isolation.proofs.Foreign.{AreStrange, strange-move}
use Rattle.up_isolation.specs.Views.{jobs_called}

-- a list with something at its end isn't empty
pub snoc-some : (es : List Entry) (e : Entry) → es ++ e ∷ [] ≡ [] → ⊥
snoc-some [] e none = absurd (cc)
snoc-some (x ∷ xs) e none = absurd (cc)

pub move-some : (def : JobDef) (x : Instance) (c : Chronicle) → move def x c ≡ [] → ⊥
move-some def x c none = snoc-some (rel ++ (sig ++ (emit ++ ord))) (Entered x.place to) (sym whole ∙ none)
  where
    to : State
    to = next_of def x.place c

    entry : table.EntryActions
    entry = entering to (state_of x.place c) def.task

    one : List Entry
    one = enter def (who_of def x) x.place to entry c

    ord : List Entry
    ord = ordering def x.place entry.orders

    emit : List Entry
    emit = emitting def (who_of def x) x.place to entry.emits ((ord ++ Entered x.place to ∷ []) ++ c)

    sig : List Entry
    sig = entries_if (entry.kills && lives x.place Main c) (Signalled x.place def.kill_signal false ∷ [])

    rel : List Entry
    rel = entries_if entry.releases (releasing x.place false (one ++ c))

    four : (xs ys zs ws es : List Entry) → xs ++ (ys ++ (zs ++ (ws ++ es))) ≡ (xs ++ (ys ++ (zs ++ ws))) ++ es
    four xs ys zs ws es = simp append_assoc

    whole : move def x c ≡ (rel ++ (sig ++ (emit ++ ord))) ++ Entered x.place to ∷ []
    whole = four rel sig emit ord (Entered x.place to ∷ [])

-- what is done first of two chronicles: nothing in both, something of another job, or the move of two that
-- stand side by side
pub data Moves (job : Bytes) (c d : Chronicle) (es fs : List Entry) : Type 0 where
  Idle : es ≡ [] → fs ≡ [] → Moves job c d es fs
  Away : (es ≡ [] → ⊥) → AreStrange job es c → Moves job c d es fs
  Two : (def : JobDef) → (x y : Instance) → At x y (instances_of job c) (instances_of job d)
      → es ≡ move def x c → fs ≡ move def y d → Moves job c d es fs

-- something before something else
or_else-some : (es others : List Entry) → (es ≡ [] → ⊥) → or_else es others ≡ es
or_else-some [] others some = absurd (some refl)
or_else-some (e ∷ es) others some = refl

or_else-none : (es others : List Entry) → es ≡ [] → or_else es others ≡ others
or_else-none [] others none = refl
or_else-none (e ∷ es) others none = absurd (cc)

pub or_else-first : (es others : List Entry) → (es ≡ [] → ⊥) → or_else es others ≡ es
or_else-first = or_else-some

pub or_else-second : (es others : List Entry) → es ≡ [] → or_else es others ≡ others
or_else-second = or_else-none

pub moves-or : (job : Bytes) (c d : Chronicle) (es others fs rest : List Entry) → Moves job c d es fs
    → Moves job c d others rest → Moves job c d (or_else es others) (or_else fs rest)
moves-or job c d es others fs rest (Idle none void) other =
    subst₂ (λ a b. Moves job c d a b) (sym (or_else-none es others none)) (sym (or_else-none fs rest void))
    other
moves-or job c d es others fs rest (Away some strange) other =
    Away (λ none. some (sym (or_else-some es others some) ∙ none))
    (subst (λ a. AreStrange job a c) (sym (or_else-some es others some)) strange)
moves-or job c d es others fs rest (Two def x y at left right) other =
    Two def x y at (or_else-some es others (λ none. move-some def x c (sym left ∙ none)) ∙ left)
    (or_else-some fs rest (λ none. move-some def y d (sym right ∙ none)) ∙ right)

-- among instances of the job
moves-in : (job : Bytes) (config : Configuration) (c d : Chronicle) (xs ys : List Instance)
    → ((x y : Instance) → At x y xs ys → At x y (instances_of job c) (instances_of job d))
    → Twins (Twin job config c d) xs ys → Moves job c d (move_in xs c) (move_in ys d)
moves-in job config c d [] [] at twins = Idle refl refl
moves-in job config c d (x ∷ xs) (y ∷ ys) at twins =
    moves-or job c d (move_of x.file x c) (move_in xs c) (move_of y.file y d) (move_in ys d)
    (subst (λ file. Moves job c d (move_of x.file x c) (move_of file y d)) twins.0.file
    (by_case (may_leave x.file x.place c) (may_leave x.file y.place d)
    (leave-same x.file x.place y.place c d twins.0.bond.alike)))
    (moves-in job config c d xs ys (λ u v there. at u v (inr there)) twins.1)
  where
    by_case : (b a : Bool) → b ≡ a
        → Moves job c d (entries_if b (move x.file x c)) (entries_if a (move x.file y d))
    by_case true true same = Two x.file x y (at x y (inl (refl, refl))) refl refl
    by_case false false same = Idle refl refl
    by_case true false same = absurd (cc)
    by_case false true same = absurd (cc)
moves-in job config c d [] (y ∷ ys) at twins = absurd twins
moves-in job config c d (x ∷ xs) [] at twins = absurd twins

moves-own : (job : Bytes) (config : Configuration) (c d : Chronicle) → Like job config c d
    → Moves job c d (move_in (instances_of job c) c) (move_in (instances_of job d) d)
moves-own job config c d like =
    moves-in job config c d (instances_of job c) (instances_of job d) (λ x y at. at) like.twins

-- among those of another job
away-in : (job : Bytes) (config : Configuration) (name : Bytes) (c d : Chronicle) (xs : List Instance)
    → Fair job c → bytes_eq name job ≡ false → AllByRecursion (IsKnown name c) xs
    → Moves job c d (move_in xs c) []
away-in job config name c d [] fair other known = Idle refl refl
away-in job config name c d (x ∷ xs) fair other known =
    moves-or job c d (move_of x.file x c) (move_in xs c) [] []
    (by_case (may_leave x.file x.place c)) (away-in job config name c d xs fair other known.1)
  where
    by_case : (b : Bool) → Moves job c d (entries_if b (move x.file x c)) []
    by_case true = Away (move-some x.file x c)
        (strange-move job config x.file x c fair (ap (is_of job) known.0.1 ∙ other, known.0.0))
    by_case false = Idle refl refl

-- job by job
pub moves-first : (job : Bytes) (config : Configuration) (js : List JobDef) (c d : Chronicle)
    → Like job config c d
    → Moves job c d (move_first (job_names js) c)
    (move_first (job_names (jobs_called job js)) d)
moves-first job config [] c d like = Idle refl refl
moves-first job config (def ∷ js) c d like =
    by_case (bytes_eq def.name job) refl (moves-first job config js c d like)
  where
    A : Configuration
    A = only job config

    by_case : (b : Bool) → bytes_eq def.name job ≡ b
        → Moves job c d (move_first (job_names js) c) (move_first (job_names (jobs_called job js)) d)
        → Moves job c d
        (or_else (move_in (instances_of def.name c) c) (move_first (job_names js) c))
        (move_first (job_names (if b then def ∷ jobs_called job js else jobs_called job js)) d)
    by_case true is ih =
        moves-or job c d (move_in (instances_of def.name c) c) (move_first (job_names js) c)
        (move_in (instances_of def.name d) d) (move_first (job_names (jobs_called job js)) d)
        (subst (λ name. Moves job c d (move_in (instances_of name c) c)
        (move_in (instances_of name d) d)) (sym (bytes_same def.name job is))
        (moves-own job config c d like)) ih
    by_case false is ih =
        moves-or job c d (move_in (instances_of def.name c) c) (move_first (job_names js) c) []
        (move_first (job_names (jobs_called job js)) d)
        (away-in job config def.name c d (instances_of def.name c) like.fair is (known def.name c)) ih
