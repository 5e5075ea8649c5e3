-- The jobs of a folder whose paths are apart have names that are apart, so that each is the one that its name finds.
use Rattle.std.proofs.Common.{◌≡◌, ℕ, ◌-◌, Bool, true, false, ◌||◌, nat_eq, List, [], ◌∷◌, ◌++◌, length, take, map, filter, Option, None, Some, option_map, refl, sym, ◌∙◌, ap, cond}
use Rattle.std.specs.Prelude.{codes, option_and_then}
use Rattle.std.specs.List.{list_any, filter_map, cons_option, ends_with}
use Rattle.std.specs.Result.{result_ok}
use Rattle.std.specs.Str.{bytes_eq}
use Rattle.std.proofs.lemmas.Bool.{false_from_ne_true}
use Rattle.std.proofs.lemmas.Bool.Decides.{Decides-eqb}
use Rattle.std.proofs.lemmas.Slice.Eq.{bytes_eq-Decides, ends_is}
use Rattle.up_conf.specs.declared.folder.File.{File}
use Rattle.up_conf.specs.declared.job.JobDef.{JobDef}
use Rattle.up_stanza.specs.declared.stanza.Stanza.{Stanza}
use Rattle.up_stanza.specs.Confs.{conf_of}
use Rattle.up_text.specs.Names.{is_name}
use Rattle.up_conf.specs.Folders.{is_read, job_in, job_name, job_of_file, jobs_of, override_of, without_ending}
use Rattle.up_conf.specs.Jobs.{job_of}
use Rattle.up_conf.specs.Order.{is_below, put_by, sort_by_order}
use Rattle.up_image.specs.Compiling.{has_twice, read_paths}
use Rattle.up_image.proofs.Repeats.{bytes_eq-flip, or-false, or_parts}
use Rattle.up_isolation.specs.Views.{jobs_called}
use Rattle.up_isolation.proofs.Ones.{AreApart, one-called}
use Rattle.std.proofs.Common.{◌≤◌}
use Rattle.up_model.specs.Values.{Bytes}
use Rattle.up_cascade.proofs.Entries.{some_same}

-- a job has the name that it was made with
name-of_job : (name : List ℕ) (stanzas : List Stanza) → (job_of name stanzas).name ≡ name
unfolding job_of
name-of_job name stanzas = refl

name-of_some : (name : List ℕ) (front : List Stanza → List Stanza) (o : Option (List Stanza)) (job : JobDef) → option_map (λ stanzas. job_of name (front stanzas)) o ≡ Some job → job.name ≡ name
name-of_some name front None job made = absurd (cc)
name-of_some name front (Some stanzas) job made = sym (ap (λ (found : JobDef). found.name) (some_same made)) ∙ name-of_job name (front stanzas)

name-in : (files : List File) (name bytes : List ℕ) (job : JobDef) → job_in files name bytes ≡ Some job → job.name ≡ name
unfolding job_in
name-in files name bytes job made = by_case (is_name name) made
  where
    by_case : (b : Bool) → cond b (option_map (λ stanzas. job_of name (stanzas ++ override_of files name)) (result_ok (conf_of bytes))) None ≡ Some job → job.name ≡ name
    by_case true made = name-of_some name (λ stanzas. stanzas ++ override_of files name) _ job made
    by_case false made = absurd (cc)

-- a path with an ending is what is before it, and the ending
path-ends : (ending path name : List ℕ) → without_ending ending path ≡ Some name → path ≡ name ++ ending
path-ends ending path name cut = by_case (ends_with nat_eq path ending) refl cut
  where
    is : ends_with nat_eq path ending ≡ true → path ≡ take (length path - length ending) path ++ ending
    is holds = (ends_is Decides-eqb path ending (ends_with nat_eq path ending) refl).0 holds

    by_case : (b : Bool) → ends_with nat_eq path ending ≡ b → cond b (Some (take (length path - length ending) path)) None ≡ Some name → path ≡ name ++ ending
    by_case true holds cut = is holds ∙ ap (λ front. front ++ ending) (some_same cut)
    by_case false holds cut = absurd (cc)

-- the file of a job is called after the job, and is read
record IsFileOf (files : List File) (file : File) (job : JobDef) : Type 0 where
  path : file.path ≡ job.name ++ codes ".conf"
  read : is_read files file.path ≡ true

file-of_job : (files : List File) (file : File) (job : JobDef) → job_of_file files file ≡ Some job → IsFileOf files file job
file-of_job files file job made = by_name (job_name file.path) refl made
  where
    by_name : (o : Option (List ℕ)) → job_name file.path ≡ o → option_and_then (λ name. job_in files name file.bytes) o ≡ Some job → IsFileOf files file job
    by_name None e made = absurd (cc)
    by_name (Some name) e made = record {
      path = path-ends (codes ".conf") file.path name e ∙ ap (λ front. front ++ codes ".conf") (sym (name-in files name file.bytes job made));
      read = rw e refl;
    }

-- the names of the jobs of files, and the paths of these files that are read
abbrev names_in : List File → List File → List (List ℕ)
names_in files xs = map (λ (job : JobDef). job.name) (filter_map (job_of_file files) xs)

abbrev paths_in : List File → List File → List (List ℕ)
paths_in files xs = filter (is_read files) (map (λ (file : File). file.path) xs)

-- a path is among those that are read
any-more : (path other : List ℕ) (b : Bool) (paths : List (List ℕ)) → list_any (bytes_eq path) paths ≡ true → list_any (bytes_eq path) (cond b (other ∷ paths) paths) ≡ true
any-more path other true paths found = rw found (or-true-right (bytes_eq path other))
  where
    or-true-right : (b : Bool) → (b || true) ≡ true
    or-true-right true = refl
    or-true-right false = refl
any-more path other false paths found = found

name-has_path : (files xs : List File) (name : List ℕ) → list_any (bytes_eq name) (names_in files xs) ≡ true → list_any (bytes_eq (name ++ codes ".conf")) (paths_in files xs) ≡ true
name-has_path files [] name found = absurd (cc)
name-has_path files (x ∷ xs) name found = by_job (job_of_file files x) refl found (name-has_path files xs name)
  where
    path : List ℕ
    path = name ++ codes ".conf"

    same : (job : JobDef) → IsFileOf files x job → bytes_eq name job.name ≡ true → list_any (bytes_eq path) (cond (is_read files x.path) (x.path ∷ paths_in files xs) (paths_in files xs)) ≡ true
    same job it named =
        let is : bytes_eq path x.path ≡ true = (bytes_eq-Decides path x.path).1 (ap (λ front. front ++ codes ".conf") ((bytes_eq-Decides name job.name).0 named) ∙ sym it.path) in
        rw (it.read, is) refl

    by_name : (b : Bool) (job : JobDef) → IsFileOf files x job → bytes_eq name job.name ≡ b → (b || list_any (bytes_eq name) (names_in files xs)) ≡ true
        → (list_any (bytes_eq name) (names_in files xs) ≡ true → list_any (bytes_eq path) (paths_in files xs) ≡ true)
        → list_any (bytes_eq path) (cond (is_read files x.path) (x.path ∷ paths_in files xs) (paths_in files xs)) ≡ true
    by_name true job it is found rest = same job it is
    by_name false job it is found rest = any-more path x.path (is_read files x.path) (paths_in files xs) (rest found)

    by_job : (o : Option JobDef) → job_of_file files x ≡ o → list_any (bytes_eq name) (map (λ (job : JobDef). job.name) (cons_option o (filter_map (job_of_file files) xs))) ≡ true
        → (list_any (bytes_eq name) (names_in files xs) ≡ true → list_any (bytes_eq path) (paths_in files xs) ≡ true)
        → list_any (bytes_eq path) (cond (is_read files x.path) (x.path ∷ paths_in files xs) (paths_in files xs)) ≡ true
    by_job None e found rest = any-more path x.path (is_read files x.path) (paths_in files xs) (rest found)
    by_job (Some job) e found rest = by_name (bytes_eq name job.name) job (file-of_job files x job e) refl found rest

-- names of files whose paths are apart are apart
names-apart : (files xs : List File) → has_twice (paths_in files xs) ≡ false → has_twice (names_in files xs) ≡ false
names-apart files [] apart = refl
names-apart files (x ∷ xs) apart = by_job (job_of_file files x) refl (names-apart files xs)
  where
    rest : (b : Bool) → has_twice (cond b (x.path ∷ paths_in files xs) (paths_in files xs)) ≡ false → has_twice (paths_in files xs) ≡ false
    rest true apart = (or_parts _ _ apart).1
    rest false apart = apart

    new : (b : Bool) → b ≡ true → has_twice (cond b (x.path ∷ paths_in files xs) (paths_in files xs)) ≡ false → list_any (bytes_eq x.path) (paths_in files xs) ≡ false
    new true kept apart = (or_parts _ _ apart).0
    new false kept apart = absurd (cc)

    none : (job : JobDef) → IsFileOf files x job → list_any (bytes_eq job.name) (names_in files xs) ≡ false
    none job it = false_from_ne_true _ (λ among.
        let found : list_any (bytes_eq x.path) (paths_in files xs) ≡ true = ap (λ p. list_any (bytes_eq p) (paths_in files xs)) it.path ∙ name-has_path files xs job.name among in
        let absent : list_any (bytes_eq x.path) (paths_in files xs) ≡ false = new (is_read files x.path) it.read apart in
        absurd (cc))

    by_job : (o : Option JobDef) → job_of_file files x ≡ o → (has_twice (paths_in files xs) ≡ false → has_twice (names_in files xs) ≡ false)
        → has_twice (map (λ (job : JobDef). job.name) (cons_option o (filter_map (job_of_file files) xs))) ≡ false
    by_job None e ih = ih (rest (is_read files x.path) apart)
    by_job (Some job) e ih = or-false _ _ (none job (file-of_job files x job e)) (ih (rest (is_read files x.path) apart))

-- names that are apart stay so in another order
none-put : (less : JobDef → JobDef → Bool) (name : List ℕ) (x : JobDef) (xs : List JobDef) → bytes_eq name x.name ≡ false → list_any (bytes_eq name) (map (λ (job : JobDef). job.name) xs) ≡ false
    → list_any (bytes_eq name) (map (λ (job : JobDef). job.name) (put_by less x xs)) ≡ false
none-put less name x [] other none = rw other refl
none-put less name x (y ∷ ys) other none = let parts = or_parts _ _ none in by_case (less y x) parts (none-put less name x ys other parts.1)
  where
    by_case : (b : Bool) → (bytes_eq name y.name ≡ false) × (list_any (bytes_eq name) (map (λ (job : JobDef). job.name) ys) ≡ false)
        → list_any (bytes_eq name) (map (λ (job : JobDef). job.name) (put_by less x ys)) ≡ false
        → list_any (bytes_eq name) (map (λ (job : JobDef). job.name) (cond b (y ∷ put_by less x ys) (x ∷ y ∷ ys))) ≡ false
    by_case true parts rest = or-false _ _ parts.0 rest
    by_case false parts rest = or-false _ _ other (or-false _ _ parts.0 parts.1)

none-sorted : (less : JobDef → JobDef → Bool) (name : List ℕ) (xs : List JobDef) → list_any (bytes_eq name) (map (λ (job : JobDef). job.name) xs) ≡ false
    → list_any (bytes_eq name) (map (λ (job : JobDef). job.name) (sort_by_order less xs)) ≡ false
none-sorted less name [] none = refl
none-sorted less name (x ∷ xs) none = let parts = or_parts _ _ none in none-put less name x (sort_by_order less xs) parts.0 (none-sorted less name xs parts.1)

apart-put : (less : JobDef → JobDef → Bool) (x : JobDef) (xs : List JobDef) → list_any (bytes_eq x.name) (map (λ (job : JobDef). job.name) xs) ≡ false → has_twice (map (λ (job : JobDef). job.name) xs) ≡ false
    → has_twice (map (λ (job : JobDef). job.name) (put_by less x xs)) ≡ false
apart-put less x [] none apart = refl
apart-put less x (y ∷ ys) none apart =
    let parts = or_parts _ _ none in
    let others = or_parts _ _ apart in
    by_case (less y x) parts others (apart-put less x ys parts.1 others.1)
  where
    by_case : (b : Bool) → (bytes_eq x.name y.name ≡ false) × (list_any (bytes_eq x.name) (map (λ (job : JobDef). job.name) ys) ≡ false)
        → (list_any (bytes_eq y.name) (map (λ (job : JobDef). job.name) ys) ≡ false) × (has_twice (map (λ (job : JobDef). job.name) ys) ≡ false)
        → has_twice (map (λ (job : JobDef). job.name) (put_by less x ys)) ≡ false
        → has_twice (map (λ (job : JobDef). job.name) (cond b (y ∷ put_by less x ys) (x ∷ y ∷ ys))) ≡ false
    by_case true parts others rest = or-false _ _ (none-put less y.name x ys (bytes_eq-flip y.name x.name ∙ parts.0) others.0) rest
    by_case false parts others rest = or-false _ _ (or-false _ _ parts.0 parts.1) (or-false _ _ others.0 others.1)

apart-sorted : (less : JobDef → JobDef → Bool) (xs : List JobDef) → has_twice (map (λ (job : JobDef). job.name) xs) ≡ false → has_twice (map (λ (job : JobDef). job.name) (sort_by_order less xs)) ≡ false
apart-sorted less [] apart = refl
apart-sorted less (x ∷ xs) apart =
    let parts = or_parts _ _ apart in
    apart-put less x (sort_by_order less xs) (none-sorted less x.name xs parts.0) (apart-sorted less xs parts.1)

-- so at most one of them has a name
apart-names : (jobs : List JobDef) → has_twice (map (λ (job : JobDef). job.name) jobs) ≡ false → AreApart jobs
apart-names [] apart = tt
apart-names (x ∷ xs) apart = let parts = or_parts _ _ apart in (parts.0, apart-names xs parts.1)

pub one-named : (job : Bytes) (files : List File) → has_twice (read_paths files) ≡ false
    → length (jobs_called job (jobs_of files)) ≤ 1
unfolding jobs_of
one-named job files apart =
    one-called job _ (apart-names _ (apart-sorted (λ job other. is_below job.name other.name)
    (filter_map (job_of_file files) files) (names-apart files files apart)))
