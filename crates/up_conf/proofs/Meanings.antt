-- What stanzas make of a job, one after another.
use Rattle.std.proofs.Common.{◌≡◌, ℕ, List, [], ◌∷◌, ◌++◌, refl, ap, append-nil}
use Rattle.up_conf.specs.declared.job.JobDef.{JobDef}
use Rattle.up_stanza.specs.declared.stanza.Stanza.{Stanza}
use Rattle.up_conf.specs.Gathering.{others_after}
use Rattle.up_conf.specs.Jobs.{env_with, export_with, job_of, plain_job, fold_stanzas}

others_after_both : (job : JobDef) (xs ys : List Stanza) → others_after (others_after job xs) ys ≡ others_after job (xs ++ ys)
others_after_both job [] ys = refl
others_after_both job (x ∷ xs) ys = others_after_both (others_after job (x ∷ [])) xs ys

-- the keys and the name apart
pub job_of_both : (name : List ℕ) (xs ys : List Stanza)
    → record (others_after (others_after (plain_job []) xs) ys) { name = name; env = fold_stanzas env_with [] (xs ++ ys); export = fold_stanzas export_with [] (xs ++ ys) } ≡ job_of name (xs ++ ys)
unfolding job_of
job_of_both name xs ys = ap {A = JobDef} (λ job. record job { name = name; env = fold_stanzas env_with [] (xs ++ ys); export = fold_stanzas export_with [] (xs ++ ys) }) (others_after_both (plain_job []) xs ys)

-- no stanza after those of a file
pub none_after : (name : List ℕ) (xs : List Stanza) → job_of name (xs ++ []) ≡ job_of name xs
none_after name xs = ap (job_of name) (append-nil xs)
