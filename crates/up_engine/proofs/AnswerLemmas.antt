-- The lines that clients read of jobs and instances, one after another.
use Rattle.std.proofs.Common.{◌≡◌, ℕ, ◌+◌, ◌<◌, Bool, true, false, if◌then◌else◌, List, [], ◌∷◌, ◌++◌, length, drop, get_or, refl, sym, ◌∙◌, ap, add-one, drop-cons, ◌==◌, eq-eqb, arith}
use Rattle.std.proofs.lemmas.Bool.Decides.{Decides-eqb}
use Rattle.up_conf.specs.declared.job.JobDef.{JobDef}
use Rattle.up_model.specs.Chronicle.{Chronicle}
use Rattle.up_model.specs.Commands.{stopped_text, statuses, job_lines, list_lines}
use Rattle.up_model.specs.Configuration.{Configuration, is_removed}
use Rattle.up_model.specs.Files.{job_names}
use Rattle.up_model.specs.Instances.{Instance, instances_of}
use Rattle.up_model.specs.Values.{Bytes}

-- the lines from one on
pub lines_left : (lines : List Bytes) (i : ℕ) (d : Bytes) → i < length lines → drop i lines ≡ get_or lines i d ∷ drop (i + 1) lines
lines_left lines i d within = rw add-one (drop-cons lines i d within)

-- the status texts, and the lines, of what is left
pub list_left : (config : Configuration) (jobs : List JobDef) (i : ℕ) (job : JobDef) (c : Chronicle) → i < length jobs → job ≡ get_or jobs i job
    → list_lines config (job_names (drop i jobs)) c
    ≡ job_lines job.name (is_removed config job.name) (instances_of job.name c) c ++ list_lines config (job_names (drop (i + 1) jobs)) c
list_left config jobs i job c within here =
    let one : drop i jobs ≡ get_or jobs i job ∷ drop (i + 1) jobs = rw add-one (drop-cons jobs i job within) in
    let rest = list_lines config (job_names (drop (i + 1) jobs)) c in
    ap (λ left. list_lines config (job_names left) c) one
    ∙ ap (λ j. job_lines j.name (is_removed config j.name) (instances_of j.name c) c ++ rest) (sym here)

-- a job with instances has a line for each
pub lines_filled : (job : Bytes) (removed : Bool) (its : List Instance) (n : ℕ) (c : Chronicle) → n ≡ length its → (n == 0) ≡ false → statuses its c ≡ job_lines job removed its c
lines_filled job removed [] n c same some = let none : (n == 0) ≡ true = eq-eqb n 0 same in absurd (cc)
lines_filled job removed (x ∷ xs) n c same some = refl

-- and one in force without any has a line of its own
pub lines_none : (job : Bytes) (removed : Bool) (its : List Instance) (n : ℕ) (c : Chronicle) → n ≡ length its → (n == 0) ≡ true
    → (if removed then [] else stopped_text job ∷ []) ≡ job_lines job removed its c
lines_none job removed [] n c same none = refl
lines_none job removed (x ∷ xs) n c same none = let zero : n ≡ 0 = (Decides-eqb n 0).0 none in absurd (omega (arith, same, zero))
