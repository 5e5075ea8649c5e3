-- The names of a folder's jobs ascend.
use Rattle.std.proofs.Common.{◌≡◌, ℕ, ◌-◌, Bool, true, false, cond, ◌||◌, nat_eq, List, [], ◌∷◌, ◌++◌, length, take, map, filter, filter_map, Option, None, Some, is_some, refl, sym, ap, ◌∙◌, codes, Ordering, Less, Equal, Greater, is_lt, nat_cmp}
use Rattle.std.specs.List.{list_all, list_any, ends_with, cons_option}
use Rattle.std.specs.Str.{bytes_eq}
use Rattle.std.specs.Cmp.Lexicographic.{slice_cmp, nat_list_cmp_total, texts_po}
use Rattle.std.specs.Ordering.{ordering_reverse}
use Rattle.std.proofs.lemmas.Bool.{and_from, and_parts, or_parts, or_from, false≢true, true≢false, false_from_ne_true}
use Rattle.std.proofs.lemmas.Bool.Decides.{Decides-eqb}
use Rattle.std.proofs.lemmas.Slice.Eq.{bytes_eq-Decides, ends_is}
use Rattle.up_conf.specs.declared.folder.File.{File}
use Rattle.up_conf.specs.declared.job.JobDef.{JobDef}
use Rattle.up_conf.specs.Folders.{job_name, has_conf, overridden_name, is_read, job_of_file}
use Rattle.up_conf.specs.Order.{is_below, put_by, sort_by_order}
use Rattle.up_image.specs.Compiling.{has_twice}
use Rattle.up_image.specs.Definable.{are_ascending}

-- of two different names one is below the other
below_by : (a b : List ℕ) (one other : Ordering) → slice_cmp nat_cmp a b ≡ one → one ≡ ordering_reverse other → is_lt other ≡ false → bytes_eq a b ≡ false → is_lt one ≡ true
below_by a b Less other is turned above apart = refl
below_by a b Equal other is turned above apart = absurd (false≢true (sym apart ∙ (texts_po.matches_eq a b).1 (ap Some is)))
below_by a b Greater Less is turned above apart = absurd (true≢false above)
below_by a b Greater Equal is turned above apart = absurd (cc)
below_by a b Greater Greater is turned above apart = absurd (cc)

below_or : (a b : List ℕ) → is_below b a ≡ false → bytes_eq a b ≡ false → is_below a b ≡ true
below_or a b above apart = below_by a b (slice_cmp nat_cmp a b) (slice_cmp nat_cmp b a) refl (nat_list_cmp_total.antisymm a b) above apart

abbrev names_of : List JobDef → List (List ℕ)
names_of jobs = map (λ job. job.name) jobs

abbrev less : JobDef → JobDef → Bool
less job other = is_below job.name other.name

put_after : (first job : JobDef) (jobs : List JobDef) → is_below first.name job.name ≡ true → are_ascending (first.name ∷ names_of jobs) ≡ true → are_ascending (names_of (put_by less job jobs)) ≡ true → are_ascending (first.name ∷ names_of (put_by less job jobs)) ≡ true
put_after first job [] below up later = and_from _ _ below refl
put_after first job (next ∷ jobs) below up later = by_case (less next job) later
  where
    by_case : (b : Bool) → are_ascending (names_of (cond b (next ∷ put_by less job jobs) (job ∷ next ∷ jobs))) ≡ true → are_ascending (first.name ∷ names_of (cond b (next ∷ put_by less job jobs) (job ∷ next ∷ jobs))) ≡ true
    by_case true rest = and_from _ _ (and_parts (is_below first.name next.name) (are_ascending (next.name ∷ names_of jobs)) up).0 rest
    by_case false rest = and_from _ _ below rest

tail_up : (job : JobDef) (jobs : List JobDef) → are_ascending (job.name ∷ names_of jobs) ≡ true → are_ascending (names_of jobs) ≡ true
tail_up job [] up = refl
tail_up job (next ∷ jobs) up = (and_parts (is_below job.name next.name) (are_ascending (next.name ∷ names_of jobs)) up).1

put_up : (job : JobDef) (jobs : List JobDef) → are_ascending (names_of jobs) ≡ true → list_any (bytes_eq job.name) (names_of jobs) ≡ false → are_ascending (names_of (put_by less job jobs)) ≡ true
put_up job [] up none = refl
put_up job (next ∷ jobs) up none = by_case (less next job) refl (put_up job jobs (tail_up next jobs up) parts.1)
  where
    parts : (bytes_eq job.name next.name ≡ false) × (list_any (bytes_eq job.name) (names_of jobs) ≡ false)
    parts = or_parts (bytes_eq job.name next.name) (list_any (bytes_eq job.name) (names_of jobs)) none

    by_case : (b : Bool) → less next job ≡ b → are_ascending (names_of (put_by less job jobs)) ≡ true → are_ascending (names_of (cond b (next ∷ put_by less job jobs) (job ∷ next ∷ jobs))) ≡ true
    by_case true below later = put_after next job jobs below up later
    by_case false above later = and_from _ _ (below_or job.name next.name above parts.0) up

put_absent : (name : List ℕ) (job : JobDef) (jobs : List JobDef) → bytes_eq name job.name ≡ false → list_any (bytes_eq name) (names_of jobs) ≡ false → list_any (bytes_eq name) (names_of (put_by less job jobs)) ≡ false
put_absent name job [] other none = or_from _ _ other refl
put_absent name job (next ∷ jobs) other none = by_case (less next job) (put_absent name job jobs other parts.1)
  where
    parts : (bytes_eq name next.name ≡ false) × (list_any (bytes_eq name) (names_of jobs) ≡ false)
    parts = or_parts (bytes_eq name next.name) (list_any (bytes_eq name) (names_of jobs)) none

    by_case : (b : Bool) → list_any (bytes_eq name) (names_of (put_by less job jobs)) ≡ false → list_any (bytes_eq name) (names_of (cond b (next ∷ put_by less job jobs) (job ∷ next ∷ jobs))) ≡ false
    by_case true later = or_from _ _ parts.0 later
    by_case false later = or_from _ _ other none

sort_absent : (name : List ℕ) (jobs : List JobDef) → list_any (bytes_eq name) (names_of jobs) ≡ false → list_any (bytes_eq name) (names_of (sort_by_order less jobs)) ≡ false
sort_absent name [] none = refl
sort_absent name (job ∷ jobs) none =
    let parts = or_parts (bytes_eq name job.name) (list_any (bytes_eq name) (names_of jobs)) none in
    put_absent name job (sort_by_order less jobs) parts.0 (sort_absent name jobs parts.1)

pub sorted_up : (jobs : List JobDef) → has_twice (names_of jobs) ≡ false → are_ascending (names_of (sort_by_order less jobs)) ≡ true
sorted_up [] apart = refl
sorted_up (job ∷ jobs) apart =
    let parts = or_parts (list_any (bytes_eq job.name) (names_of jobs)) (has_twice (names_of jobs)) apart in
    put_up job (sort_by_order less jobs) (sorted_up jobs parts.1) (sort_absent job.name jobs parts.0)

-- jobs in order are the same jobs
put_all : (test : JobDef → Bool) (job : JobDef) (jobs : List JobDef) → test job ≡ true → list_all test jobs ≡ true → list_all test (put_by less job jobs) ≡ true
put_all test job [] one all = and_from _ _ one refl
put_all test job (next ∷ jobs) one all = by_case (less next job) (put_all test job jobs one parts.1)
  where
    parts : (test next ≡ true) × (list_all test jobs ≡ true)
    parts = and_parts (test next) (list_all test jobs) all

    by_case : (b : Bool) → list_all test (put_by less job jobs) ≡ true → list_all test (cond b (next ∷ put_by less job jobs) (job ∷ next ∷ jobs)) ≡ true
    by_case true later = and_from _ _ parts.0 later
    by_case false later = and_from _ _ one all

pub sorted_all : (test : JobDef → Bool) (jobs : List JobDef) → list_all test jobs ≡ true → list_all test (sort_by_order less jobs) ≡ true
sorted_all test [] all = refl
sorted_all test (job ∷ jobs) all =
    let parts = and_parts (test job) (list_all test jobs) all in
    put_all test job (sort_by_order less jobs) parts.0 (sorted_all test jobs parts.1)

-- a name stands for one path
path_is : (path name : List ℕ) → job_name path ≡ Some name → path ≡ name ++ codes ".conf"
path_is path name is = by_end (ends_with nat_eq path (codes ".conf")) refl is
  where
    by_end : (e : Bool) → ends_with nat_eq path (codes ".conf") ≡ e → cond e (Some (take (length path - length (codes ".conf")) path)) None ≡ Some name → path ≡ name ++ codes ".conf"
    by_end true ends some =
        let whole = (ends_is Decides-eqb path (codes ".conf") (ends_with nat_eq path (codes ".conf")) refl).0 ends in
        let same : take (length path - length (codes ".conf")) path ≡ name = cc in
        whole ∙ ap (λ n. n ++ codes ".conf") same
    by_end false other none = absurd (cc)

-- each job has the name of its file
abbrev pub AreNamed : List File → Type 0
AreNamed files = (file : File) (job : JobDef) → job_of_file files file ≡ Some job → job_name file.path ≡ Some job.name

read_by_name : (files : List File) (path name : List ℕ) → job_name path ≡ Some name → is_read files path ≡ true
read_by_name files path name is = ap (λ found. is_some found || has_conf files (overridden_name path)) is

names_absent : (all : List File) → AreNamed all → (path name : List ℕ) → path ≡ name ++ codes ".conf" → (files : List File) → list_any (bytes_eq path) (filter (is_read all) (map (λ file. file.path) files)) ≡ false
    → list_any (bytes_eq name) (names_of (filter_map (job_of_file all) files)) ≡ false
names_absent all named path name at [] none = refl
names_absent all named path name at (file ∷ files) none = by_case (is_read all file.path) (job_of_file all file) refl refl none (names_absent all named path name at files)
  where
    other_name : (job : JobDef) → path ≡ name ++ codes ".conf" → file.path ≡ job.name ++ codes ".conf" → bytes_eq path file.path ≡ false → bytes_eq name job.name ≡ false
    other_name job one two apart =
        false_from_ne_true (bytes_eq name job.name) (λ same. false≢true (sym apart ∙ (bytes_eq-Decides path file.path).1 (one ∙ ap (λ n. n ++ codes ".conf") ((bytes_eq-Decides name job.name).0 same) ∙ sym two)))

    by_case : (r : Bool) (found : Option JobDef) → is_read all file.path ≡ r → job_of_file all file ≡ found
        → list_any (bytes_eq path) (cond r (file.path ∷ filter (is_read all) (map (λ file. file.path) files)) (filter (is_read all) (map (λ file. file.path) files))) ≡ false
        → (list_any (bytes_eq path) (filter (is_read all) (map (λ file. file.path) files)) ≡ false → list_any (bytes_eq name) (names_of (filter_map (job_of_file all) files)) ≡ false)
        → list_any (bytes_eq name) (names_of (cons_option found (filter_map (job_of_file all) files))) ≡ false
    by_case true None er ef none later = later (or_parts (bytes_eq path file.path) _ none).1
    by_case false None er ef none later = later none
    by_case true (Some job) er ef none later =
        let parts = or_parts (bytes_eq path file.path) (list_any (bytes_eq path) (filter (is_read all) (map (λ file. file.path) files))) none in
        or_from _ _ (other_name job at (path_is file.path job.name (named file job ef)) parts.0) (later parts.1)
    by_case false (Some job) er ef none later = absurd (false≢true (sym er ∙ read_by_name all file.path job.name (named file job ef)))

pub names_apart : (all : List File) → AreNamed all → (files : List File) → has_twice (filter (is_read all) (map (λ file. file.path) files)) ≡ false → has_twice (names_of (filter_map (job_of_file all) files)) ≡ false
names_apart all named [] apart = refl
names_apart all named (file ∷ files) apart = by_case (is_read all file.path) (job_of_file all file) refl refl apart (names_apart all named files)
  where
    by_case : (r : Bool) (found : Option JobDef) → is_read all file.path ≡ r → job_of_file all file ≡ found
        → has_twice (cond r (file.path ∷ filter (is_read all) (map (λ file. file.path) files)) (filter (is_read all) (map (λ file. file.path) files))) ≡ false
        → (has_twice (filter (is_read all) (map (λ file. file.path) files)) ≡ false → has_twice (names_of (filter_map (job_of_file all) files)) ≡ false)
        → has_twice (names_of (cons_option found (filter_map (job_of_file all) files))) ≡ false
    by_case true None er ef apart later = later (or_parts (list_any (bytes_eq file.path) (filter (is_read all) (map (λ file. file.path) files))) _ apart).1
    by_case false None er ef apart later = later apart
    by_case true (Some job) er ef apart later =
        let parts = or_parts (list_any (bytes_eq file.path) (filter (is_read all) (map (λ file. file.path) files))) (has_twice (filter (is_read all) (map (λ file. file.path) files))) apart in
        or_from _ _ (names_absent all named file.path job.name (path_is file.path job.name (named file job ef)) files parts.0) (later parts.1)
    by_case false (Some job) er ef apart later = absurd (false≢true (sym er ∙ read_by_name all file.path job.name (named file job ef)))
