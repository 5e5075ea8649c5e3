-- Rules by which no main is ordered while it lives, and the entries that keep them.
use Rattle.up_model.proofs.Names.{◌≡◌, ℕ, ◌==◌, Bool, true, false, [], ◌∷◌, ◌++◌, length, Option, None, Some}
use Rattle.up_model.proofs.Names.{is_some, if◌then◌else◌, refl, sym, ◌∙◌, ap, subst, ◌&&◌, bytes_eq, eqb-true}
use Rattle.up_model.proofs.Names.{AllByRecursion, JobDef, Process, State, Stopping, PostStart, Running, PreStop}
use Rattle.up_model.proofs.Names.{Spawned, Killed, Who, awaits, HasOneMain, Chronicle, Entry, Given, Made, Entered}
use Rattle.up_model.proofs.Names.{Ordered, Configuration, instance_named, has_process, same_process, made_at}
use Rattle.up_model.proofs.Names.{file_of, state_of, pid_of, lives, is_awaited, releasing, Bytes}
use Rattle.up_stanza.specs.declared.process.Process.TheVariants as process
use Rattle.up_model.specs.declared.input.Input.TheVariants as input
use Rattle.up_model.specs.declared.process.How.{How}
use Rattle.up_model.specs.Readings.{speaks_of}
use Rattle.up_model.specs.Predicates.{same_who}
use Rattle.up_model.proofs.BlockLaws.{and-left}
use Rattle.up_model.proofs.FileLaws.{file_of-later}
use Rattle.up_model.proofs.NameLaws.{called, made-named, Singles, entered-singles, entered-named, made-singles}
use Rattle.up_model.proofs.NameLaws.{made-found}
use Rattle.up_model.proofs.Places.{bytes_same}
use Rattle.up_model.proofs.ReplyLaws.{Allows, releasing-all}

-- the states in which main may live
abbrev pub may_live : State → Bool
may_live Spawned = true
may_live PostStart = true
may_live Running = true
may_live PreStop = true
may_live Stopping = true
may_live Killed = true
may_live other = false

-- whether a file is there and has a main process
abbrev pub has_main : Option JobDef → Bool
has_main None = false
has_main (Some job) = has_process job process.Main

-- what is so of an instance that exists: its main lives in these states alone, and is awaited in spawned alone, if its file has one
pub record Fits (p : ℕ) (c : Chronicle) : Type 0 where
  pub alive : lives p process.Main c ≡ true → may_live (state_of p c) ≡ true
  pub asked : is_awaited p process.Main c ≡ true → (state_of p c ≡ Spawned) × (has_main (file_of p c) ≡ true)

-- each instance is found by its name, these things are so of each, and none ordered its main while that lived
pub record Keeps (c : Chronicle) : Type 0 where
  pub single : Singles c
  pub fits : (who : Who) (p : ℕ) → instance_named who c ≡ Some p → Fits p c
  pub lone : HasOneMain c

-- the file of an instance that is found stays as it is
has-later : (who : Who) (p : ℕ) (e : Entry) (c : Chronicle) → instance_named who c ≡ Some p → has_main (file_of p c) ≡ true → has_main (file_of p (e ∷ c)) ≡ true
has-later who p e c found has = ap has_main (file_of-later p e c (made-named who p c found).0) ∙ has

spawned-later : (who : Who) (p : ℕ) (e : Entry) (c : Chronicle) → instance_named who c ≡ Some p → (state_of p c ≡ Spawned) × (has_main (file_of p c) ≡ true)
    → (state_of p c ≡ Spawned) × (has_main (file_of p (e ∷ c)) ≡ true)
spawned-later who p e c found is = (is.0, has-later who p e c found is.1)

-- an entry that changes no instance, no state, and nothing of what is awaited or lives
abbrev pub IsStill : Entry → Type 0
IsStill (Given (input.Spawned who its pid)) = ⊥
IsStill (Given (input.Refused who its)) = ⊥
IsStill (Given (input.Ended who its how)) = ⊥
IsStill (Made file name) = ⊥
IsStill (Entered instance entered) = ⊥
IsStill (Ordered instance process) = ⊥
IsStill entry = Unit {0}

pub still-allows : Allows IsStill
still-allows = record {
  replied = λ request answer. tt;
  released = λ instance failed. tt;
  aimed = λ instance aim environment its. tt;
  restarted = λ instance its. tt;
  queued = λ given event. tt;
}

-- a release is still
pub releasing-still : (p : ℕ) (failed : Bool) (c : Chronicle) → AllByRecursion IsStill (releasing p failed c)
releasing-still p failed c = releasing-all IsStill (λ request answer. tt) p failed tt c

-- it leaves the rules kept
pub still-keeps : (config : Configuration) (e : Entry) (c : Chronicle) → IsStill e → Keeps c → Keeps (e ∷ c)
still-keeps config (Given (input.Spawned who its pid)) c still keeps = absurd still
still-keeps config (Given (input.Refused who its)) c still keeps = absurd still
still-keeps config (Given (input.Ended who its how)) c still keeps = absurd still
still-keeps config (Made file name) c still keeps = absurd still
still-keeps config (Entered instance entered) c still keeps = absurd still
still-keeps config (Ordered instance its) c still keeps = absurd still
still-keeps config (Given given) c still keeps = record {
  single = keeps.single;
  fits = λ who p found. record { alive = (keeps.fits who p found).alive; asked = λ so. spawned-later who p (Given given) c found ((keeps.fits who p found).asked so) };
  lone = keeps.lone;
}
still-keeps config e c still keeps = record {
  single = keeps.single;
  fits = λ who p found. record { alive = (keeps.fits who p found).alive; asked = λ so. spawned-later who p e c found ((keeps.fits who p found).asked so) };
  lone = keeps.lone;
}

-- so do several
pub stills-keep : (config : Configuration) (es c : Chronicle) → AllByRecursion IsStill es → Keeps c → Keeps (es ++ c)
stills-keep config [] c still keeps = keeps
stills-keep config (e ∷ es) c still keeps = still-keeps config e (es ++ c) still.0 (stills-keep config es c still.1 keeps)

-- an instance whose main isn't awaited enters a state in which main may live if it lives
pub entered-keeps : (config : Configuration) (p : ℕ) (to : State) (c : Chronicle) → is_awaited p process.Main c ≡ false → (lives p process.Main c ≡ true → may_live to ≡ true)
    → Keeps c → Keeps (Entered p to ∷ c)
entered-keeps config p to c idle may keeps = record {
  single = entered-singles p to c keeps.single;
  fits = λ who q found. record {
    alive = λ lives_still. alive-now q lives_still ((keeps.fits who q (entered-named who p q to c keeps.single found)).alive) (p == q) refl;
    asked = λ awaited_still. asked-now who q (entered-named who p q to c keeps.single found) awaited_still (p == q) refl;
  };
  lone = keeps.lone;
}
  where
    alive-now : (q : ℕ) → lives q process.Main c ≡ true → (lives q process.Main c ≡ true → may_live (state_of q c) ≡ true) → (b : Bool) → (p == q) ≡ b
        → may_live (if b then to else state_of q c) ≡ true
    alive-now q so before true same = may (subst (λ its. lives its process.Main c ≡ true) (sym (eqb-true p q same)) so)
    alive-now q so before false differs = before so

    asked-now : (who : Who) (q : ℕ) → instance_named who c ≡ Some q → is_awaited q process.Main c ≡ true → (b : Bool) → (p == q) ≡ b
        → ((if b then to else state_of q c) ≡ Spawned) × (has_main (file_of q (Entered p to ∷ c)) ≡ true)
    asked-now who q found so true same =
        let no : is_awaited q process.Main c ≡ false = subst (λ its. is_awaited its process.Main c ≡ false) (eqb-true p q same) idle in
        absurd (cc)
    asked-now who q found so false differs = spawned-later who q (Entered p to) c found ((keeps.fits who q found).asked so)

-- an instance orders another process than main
pub other-keeps : (config : Configuration) (p : ℕ) (its : Process) (c : Chronicle) → same_process its process.Main ≡ false → Keeps c → Keeps (Ordered p its ∷ c)
other-keeps config p process.Main c other keeps = cc
other-keeps config p its c other keeps = record {
  single = keeps.single;
  fits = λ who q found. record { alive = (keeps.fits who q found).alive; asked = λ so. spawned-later who q (Ordered p its) c found ((keeps.fits who q found).asked (by_case q (p == q) so)) };
  lone = keeps.lone;
}
  where
    by_case : (q : ℕ) (b : Bool) → (if b && false then true else is_awaited q process.Main c) ≡ true → is_awaited q process.Main c ≡ true
    by_case q true so = so
    by_case q false so = so

-- a name in a place that was made under a name
one-name : (who other : Who) (p : ℕ) (c : Chronicle) → instance_named who c ≡ Some p → instance_named other c ≡ Some p → who ≡ other
one-name who other p c found again = one (made-named who p c found).1 (made-named other p c again).1
  where
    one : made_at p c ≡ Some who → made_at p c ≡ Some other → who ≡ other
    one e f = cc

-- an instance in spawned, whose main doesn't live, orders main
pub main-keeps : (config : Configuration) (its : Who) (p : ℕ) (c : Chronicle) → instance_named its c ≡ Some p → state_of p c ≡ Spawned → has_main (file_of p c) ≡ true
    → lives p process.Main c ≡ false → Keeps c → Keeps (Ordered p process.Main ∷ c)
main-keeps config its p c there here has gone keeps = record {
  single = keeps.single;
  fits = λ who q found. record { alive = (keeps.fits who q found).alive; asked = λ so. by_case who q found (p == q) refl so };
  lone = (gone, keeps.lone);
}
  where
    by_case : (who : Who) (q : ℕ) → instance_named who c ≡ Some q → (b : Bool) → (p == q) ≡ b → (if b && true then true else is_awaited q process.Main c) ≡ true
        → (state_of q c ≡ Spawned) × (has_main (file_of q (Ordered p process.Main ∷ c)) ≡ true)
    by_case who q found true same so =
        spawned-later who q (Ordered p process.Main) c found (subst (λ at. (state_of at c ≡ Spawned) × (has_main (file_of at c) ≡ true)) (eqb-true p q same) (here, has))
    by_case who q found false differs so = spawned-later who q (Ordered p process.Main) c found ((keeps.fits who q found).asked so)

-- an instance of a new name is made
pub made-keeps : (config : Configuration) (file : JobDef) (name : Bytes) (c : Chronicle) → instance_named (called file.name name) c ≡ None → Keeps c → Keeps (Made file name ∷ c)
made-keeps config file name c none keeps = record {
  single = made-singles file name c none keeps.single;
  fits = λ who q found. record {
    alive = λ so. by_alive who q found (length c == q) refl so;
    asked = λ so. by_asked who q found (length c == q) refl so;
  };
  lone = keeps.lone;
}
  where
    by_alive : (who : Who) (q : ℕ) → instance_named who (Made file name ∷ c) ≡ Some q → (b : Bool) → (length c == q) ≡ b
        → is_some (if b then None else pid_of q process.Main c) ≡ true → may_live (state_of q c) ≡ true
    by_alive who q found true same so = cc
    by_alive who q found false differs so = (keeps.fits who q (made-found who file name q c differs found)).alive so

    by_asked : (who : Who) (q : ℕ) → instance_named who (Made file name ∷ c) ≡ Some q → (b : Bool) → (length c == q) ≡ b
        → (if b then false else is_awaited q process.Main c) ≡ true → (state_of q c ≡ Spawned) × (has_main (file_of q (Made file name ∷ c)) ≡ true)
    by_asked who q found true same so = cc
    by_asked who q found false differs so =
        let before = made-found who file name q c differs found in
        spawned-later who q (Made file name) c before ((keeps.fits who q before).asked so)

and-right : (a b : Bool) → a && b ≡ true → b ≡ true
and-right true b h = h
and-right false b h = cc

-- equal names, and equal processes
who_same : (who other : Who) → same_who who other ≡ true → who ≡ other
who_same who other h =
    ap (λ job. called job who.instance) (bytes_same who.job other.job (and-left (bytes_eq who.job other.job) (bytes_eq who.instance other.instance) h))
    ∙ ap (λ name. called other.job name) (bytes_same who.instance other.instance (and-right (bytes_eq who.job other.job) (bytes_eq who.instance other.instance) h))

main_same : (its : Process) → same_process its process.Main ≡ true → its ≡ process.Main
main_same process.Main h = refl
main_same its h = cc

-- an awaited process was spawned
pub spawned-keeps : (config : Configuration) (who : Who) (its : Process) (pid : ℕ) (c : Chronicle) → awaits (instance_named who c) its c ≡ true
    → Keeps c → Keeps (Given (input.Spawned who its pid) ∷ c)
spawned-keeps config who its pid c expected keeps = record {
  single = keeps.single;
  fits = λ other q found. record {
    alive = λ so. alive-now other q found (made_at q c) (made-named other q c found).1 so;
    asked = λ so. spawned-later other q (Given (input.Spawned who its pid)) c found ((keeps.fits other q found).asked (asked-then q (speaks_of (made_at q c) process.Main who its) so));
  };
  lone = keeps.lone;
}
  where
    asked-then : (q : ℕ) (b : Bool) → (if b then false else is_awaited q process.Main c) ≡ true → is_awaited q process.Main c ≡ true
    asked-then q true so = cc
    asked-then q false so = so

    spoken : (other : Who) (q : ℕ) → instance_named other c ≡ Some q → who ≡ other → its ≡ process.Main → may_live (state_of q c) ≡ true
    spoken other q found name main =
        let there : instance_named who c ≡ Some q = subst (λ who. instance_named who c ≡ Some q) (sym name) found in
        let so : is_awaited q process.Main c ≡ true = subst (λ its. is_awaited q its c ≡ true) main (subst (λ o. awaits o its c ≡ true) there expected) in
        ap may_live ((keeps.fits other q found).asked so).0

    by_case : (other : Who) (q : ℕ) → instance_named other c ≡ Some q → (b : Bool) → (same_who who other && same_process its process.Main) ≡ b
        → is_some (if b then Some pid else pid_of q process.Main c) ≡ true → may_live (state_of q c) ≡ true
    by_case other q found true spoke so =
        spoken other q found (who_same who other (and-left (same_who who other) (same_process its process.Main) spoke))
        (main_same its (and-right (same_who who other) (same_process its process.Main) spoke))
    by_case other q found false silent so = (keeps.fits other q found).alive so

    alive-now : (other : Who) (q : ℕ) → instance_named other c ≡ Some q → (o : Option Who) → o ≡ Some other
        → is_some (if speaks_of o process.Main who its then Some pid else pid_of q process.Main c) ≡ true → may_live (state_of q c) ≡ true
    alive-now other q found o is so =
        by_case other q found (same_who who other && same_process its process.Main) refl
        (subst (λ o. is_some (if speaks_of o process.Main who its then Some pid else pid_of q process.Main c) ≡ true) is so)

-- a process was refused, or ended
pub refused-keeps : (config : Configuration) (who : Who) (its : Process) (c : Chronicle) → Keeps c → Keeps (Given (input.Refused who its) ∷ c)
refused-keeps config who its c keeps = record {
  single = keeps.single;
  fits = λ other q found. record {
    alive = (keeps.fits other q found).alive;
    asked = λ so. spawned-later other q (Given (input.Refused who its)) c found ((keeps.fits other q found).asked (by_case q (speaks_of (made_at q c) process.Main who its) so));
  };
  lone = keeps.lone;
}
  where
    by_case : (q : ℕ) (b : Bool) → (if b then false else is_awaited q process.Main c) ≡ true → is_awaited q process.Main c ≡ true
    by_case q true so = cc
    by_case q false so = so

pub ended-keeps : (config : Configuration) (who : Who) (its : Process) (how : How) (c : Chronicle) → Keeps c → Keeps (Given (input.Ended who its how) ∷ c)
ended-keeps config who its how c keeps = record {
  single = keeps.single;
  fits = λ other q found. record {
    alive = λ so. (keeps.fits other q found).alive (by_case q (speaks_of (made_at q c) process.Main who its) so);
    asked = λ so. spawned-later other q (Given (input.Ended who its how)) c found ((keeps.fits other q found).asked so);
  };
  lone = keeps.lone;
}
  where
    by_case : (q : ℕ) (b : Bool) → is_some (if b then None else pid_of q process.Main c) ≡ true → lives q process.Main c ≡ true
    by_case q true so = cc
    by_case q false so = so
