-- The job that readable files define can be given.
use Rattle.std.proofs.Common.{◌≡◌, ℕ, ◌+◌, ◌≤◌, Bool, true, false, cond, ◌&&◌, nat_le, List, [], ◌∷◌, ◌++◌, length, filter_map, Option, None, Some, Result, Ok, Err, option_map, option_and_then, unwrap_or, refl, sym, ap, ◌∙◌, subst, arith, codes, leb-true, le-leb}
use Rattle.std.specs.List.{list_all, cons_option}
use Rattle.std.specs.Result.{result_ok}
use Rattle.std.proofs.lemmas.Bool.{and_from, and_parts, not_from_false}
use Rattle.std.proofs.lemmas.Str.{is_utf8-from_IsUtf8, IsUtf8-nil}
use Rattle.up_text.specs.Expansion.{is_expandable}
use Rattle.up_text.specs.Names.{is_name}
use Rattle.up_expr.specs.Trees.{Tree}
use Rattle.up_stanza.specs.declared.action.Action.{Action}
use Rattle.up_stanza.specs.declared.limit.Limit.{Limit}
use Rattle.up_stanza.specs.declared.process.Process.TheVariants.{Main, PreStart, PostStart, PreStop, PostStop}
use Rattle.up_stanza.specs.declared.stanza.Stanza.{Stanza}
use Rattle.up_stanza.specs.declared.stanza.Stanza.TheVariants.{Env, Export, Manual, RespawnLimit, NormalExit, KillTimeout, KillSignal, ReloadSignal, Instance, Chdir, Runs, StartOn, StopOn}
use Rattle.up_stanza.specs.Confs.{keys_set, keys_exported, total, has_few_keys, conf_of}
use Rattle.up_stanza.specs.Signals.{hup, is_signal, term}
use Rattle.up_stanza.proofs.Conforming.{conf_is}
use Rattle.up_stanza.proofs.Backward.{chosen}
use Rattle.up_conf.specs.declared.folder.File.{File}
use Rattle.up_conf.specs.declared.job.JobDef.{JobDef}
use Rattle.up_conf.specs.Folders.{job_name, bytes_at, override_of, job_in, job_of_file, jobs_of}
use Rattle.up_conf.specs.Jobs.{last_or, fold_stanzas, instance_in, dir_in, limit_in, kill_signal_in, kill_timeout_in, reload_signal_in, main_in, pre_start_in, post_start_in, pre_stop_in, post_stop_in, start_in, stop_in, env_with, export_with, normal_with, job_of}
use Rattle.up_conf.specs.declared.report.Fault.{Fault}
use Rattle.up_image.specs.Compiling.{Compiles, has_twice, read_paths}
use Rattle.up_image.specs.Definable.{is_token, can_set, can_export, are_exits, can_run, can_await, is_definable, are_definable}
use Rattle.up_image.specs.declared.limits.TheConstants.{MAX_KEYS, MAX_SECONDS}
use Rattle.up_image.proofs.GivenLists.{AllGood, ListsGood, env_good, export_good, exits_good}
use Rattle.up_image.proofs.GivenStanzas.{StanzaGood, is_limit, conf_good}
use Rattle.up_image.proofs.GivenOrder.{sorted_up, sorted_all, names_apart}

all_good : (xs ys : List Stanza) → AllGood StanzaGood xs → AllGood StanzaGood ys → AllGood StanzaGood (xs ++ ys)
all_good [] ys one other = other
all_good (x ∷ xs) ys one other = (one.0, all_good xs ys one.1 other)

-- the last that good stanzas say
last_good : {X : Type 0} (test : X → Bool) (says : Stanza → Option X) → ((stanza : Stanza) → StanzaGood stanza → (y : X) → says stanza ≡ Some y → test y ≡ true) → (x : X) (stanzas : List Stanza) → test x ≡ true → AllGood StanzaGood stanzas → test (last_or x says stanzas) ≡ true
last_good test says said x [] good all = good
last_good test says said x (stanza ∷ stanzas) good all = last_good test says said (unwrap_or (says stanza) x) stanzas (by_said (says stanza) refl) all.1
  where
    by_said : (found : Option _) → says stanza ≡ found → test (unwrap_or found x) ≡ true
    by_said None is = good
    by_said (Some y) is = said stanza all.0 y is

abbrev is_instance : List ℕ → Bool
is_instance text = is_token text && is_expandable text

instance_said : (stanza : Stanza) → StanzaGood stanza → (y : List ℕ) → instance_in stanza ≡ Some y → is_instance y ≡ true
instance_said (Instance name) good y is = let same : name ≡ y = cc in ap is_instance (sym same) ∙ and_from _ _ good.0 good.1
instance_said stanza good y is = absurd (cc)

dir_said : (stanza : Stanza) → StanzaGood stanza → (y : List ℕ) → dir_in stanza ≡ Some y → is_token y ≡ true
dir_said (Chdir dir) good y is = let same : dir ≡ y = cc in ap is_token (sym same) ∙ good
dir_said stanza good y is = absurd (cc)

limit_said : (stanza : Stanza) → StanzaGood stanza → (y : Limit) → limit_in stanza ≡ Some y → is_limit y ≡ true
limit_said (RespawnLimit limit) good y is = let same : limit ≡ y = cc in ap is_limit (sym same) ∙ good
limit_said stanza good y is = absurd (cc)

signal_said : (stanza : Stanza) → StanzaGood stanza → (y : ℕ) → kill_signal_in stanza ≡ Some y → is_signal y ≡ true
signal_said (KillSignal signal) good y is = let same : signal ≡ y = cc in ap is_signal (sym same) ∙ good
signal_said stanza good y is = absurd (cc)

timeout_said : (stanza : Stanza) → StanzaGood stanza → (y : ℕ) → kill_timeout_in stanza ≡ Some y → nat_le y MAX_SECONDS ≡ true
timeout_said (KillTimeout seconds) good y is = let same : seconds ≡ y = cc in ap (λ n. nat_le n MAX_SECONDS) (sym same) ∙ good
timeout_said stanza good y is = absurd (cc)

reload_said : (stanza : Stanza) → StanzaGood stanza → (y : ℕ) → reload_signal_in stanza ≡ Some y → is_signal y ≡ true
reload_said (ReloadSignal signal) good y is = let same : signal ≡ y = cc in ap is_signal (sym same) ∙ good
reload_said stanza good y is = absurd (cc)

main_said : (stanza : Stanza) → StanzaGood stanza → (y : Option Action) → main_in stanza ≡ Some y → can_run y ≡ true
main_said (Runs Main action) good y is = let same : Some action ≡ y = cc in ap can_run (sym same) ∙ good
main_said stanza good y is = absurd (cc)

pre_start_said : (stanza : Stanza) → StanzaGood stanza → (y : Option Action) → pre_start_in stanza ≡ Some y → can_run y ≡ true
pre_start_said (Runs PreStart action) good y is = let same : Some action ≡ y = cc in ap can_run (sym same) ∙ good
pre_start_said stanza good y is = absurd (cc)

post_start_said : (stanza : Stanza) → StanzaGood stanza → (y : Option Action) → post_start_in stanza ≡ Some y → can_run y ≡ true
post_start_said (Runs PostStart action) good y is = let same : Some action ≡ y = cc in ap can_run (sym same) ∙ good
post_start_said stanza good y is = absurd (cc)

pre_stop_said : (stanza : Stanza) → StanzaGood stanza → (y : Option Action) → pre_stop_in stanza ≡ Some y → can_run y ≡ true
pre_stop_said (Runs PreStop action) good y is = let same : Some action ≡ y = cc in ap can_run (sym same) ∙ good
pre_stop_said stanza good y is = absurd (cc)

post_stop_said : (stanza : Stanza) → StanzaGood stanza → (y : Option Action) → post_stop_in stanza ≡ Some y → can_run y ≡ true
post_stop_said (Runs PostStop action) good y is = let same : Some action ≡ y = cc in ap can_run (sym same) ∙ good
post_stop_said stanza good y is = absurd (cc)

start_said : (stanza : Stanza) → StanzaGood stanza → (y : Option Tree) → start_in stanza ≡ Some y → can_await y ≡ true
start_said (StartOn tree) good y is = let same : Some tree ≡ y = cc in ap can_await (sym same) ∙ good
start_said Manual good y is = let same : None ≡ y = cc in ap can_await (sym same)
start_said stanza good y is = absurd (cc)

stop_said : (stanza : Stanza) → StanzaGood stanza → (y : Option Tree) → stop_in stanza ≡ Some y → can_await y ≡ true
stop_said (StopOn tree) good y is = let same : Some tree ≡ y = cc in ap can_await (sym same) ∙ good
stop_said stanza good y is = absurd (cc)

-- settings, exports and exits

lists_good : (stanza : Stanza) → StanzaGood stanza → ListsGood stanza
lists_good (Env setting) good = good
lists_good (Export keys) good = good
lists_good (NormalExit exits) good = good
lists_good stanza good = tt

all_lists : (stanzas : List Stanza) → AllGood StanzaGood stanzas → AllGood ListsGood stanzas
all_lists [] good = tt
all_lists (stanza ∷ stanzas) good = (lists_good stanza good.0, all_lists stanzas good.1)

total_both : (count : Stanza → ℕ) (xs ys : List Stanza) → total count (xs ++ ys) ≡ total count xs + total count ys
total_both count [] ys = omega arith
total_both count (x ∷ xs) ys = omega (arith, total_both count xs ys)

record FewKeys (stanzas : List Stanza) : Type 0 where
  set : total keys_set stanzas ≤ 30000
  exported : total keys_exported stanzas ≤ 30000

few_keys : (stanzas : List Stanza) → has_few_keys stanzas ≡ true → FewKeys stanzas
few_keys stanzas few =
    let parts = and_parts (nat_le (total keys_set stanzas) 30000) (nat_le (total keys_exported stanzas) 30000) few in
    record { set = leb-true (total keys_set stanzas) 30000 parts.0; exported = leb-true (total keys_exported stanzas) 30000 parts.1 }

env_given : (xs ys : List Stanza) → AllGood StanzaGood (xs ++ ys) → FewKeys xs → FewKeys ys → can_set (fold_stanzas env_with [] (xs ++ ys)) ≡ true
env_given xs ys good one other =
    let made = env_good [] (xs ++ ys) (all_lists (xs ++ ys) good) (record { all = refl; apart = refl }) in
    and_from _ _ (and_from _ _ (le-leb (length (fold_stanzas env_with [] (xs ++ ys))) MAX_KEYS (omega (arith, made.1, total_both keys_set xs ys, one.set, other.set))) made.0.all) (not_from_false _ made.0.apart)

export_given : (xs ys : List Stanza) → AllGood StanzaGood (xs ++ ys) → FewKeys xs → FewKeys ys → can_export (fold_stanzas export_with [] (xs ++ ys)) ≡ true
export_given xs ys good one other =
    let made = export_good [] (xs ++ ys) (all_lists (xs ++ ys) good) (record { all = refl; apart = refl }) in
    and_from _ _ (and_from _ _ (le-leb (length (fold_stanzas export_with [] (xs ++ ys))) MAX_KEYS (omega (arith, made.1, total_both keys_exported xs ys, one.exported, other.exported))) made.0.all) (not_from_false _ made.0.apart)

normal_given : (stanzas : List Stanza) → AllGood StanzaGood stanzas → are_exits (fold_stanzas normal_with [] stanzas) ≡ true
normal_given stanzas good =
    let made = exits_good [] stanzas (all_lists stanzas good) (record { all = refl; apart = refl }) in
    and_from _ _ made.all made.apart

-- a job

no_text : is_token [] ≡ true
no_text = and_from _ _ (is_utf8-from_IsUtf8 [] IsUtf8-nil) refl

no_instance : is_expandable [] ≡ true
unfolding is_expandable
no_instance = refl

job_given : (name : List ℕ) (xs ys : List Stanza) → is_name name ≡ true → AllGood StanzaGood (xs ++ ys) → FewKeys xs → FewKeys ys → is_definable (job_of name (xs ++ ys)) ≡ true
unfolding is_definable job_of
job_given name xs ys named good one other =
    let all = xs ++ ys in
    let instance = and_parts (is_token (last_or [] instance_in all)) (is_expandable (last_or [] instance_in all)) (last_good is_instance instance_in instance_said [] all (and_from _ _ no_text no_instance) good) in
    let limit = last_good is_limit limit_in limit_said (record { count = 10; interval = 5 }) all refl good in
    and_from _ _ (and_from _ _ (and_from _ _ (and_from _ _
    (and_from _ _ (and_from _ _ (and_from _ _ named instance.0) instance.1) (last_good is_token dir_in dir_said [] all no_text good))
    (and_from _ _ (and_from _ _ (and_from _ _ limit (last_good is_signal kill_signal_in signal_said term all refl good)) (last_good (λ n. nat_le n MAX_SECONDS) kill_timeout_in timeout_said 5 all refl good))
    (last_good is_signal reload_signal_in reload_said hup all refl good)))
    (and_from _ _ (and_from _ _ (env_given xs ys good one other) (export_given xs ys good one other)) (normal_given all good)))
    (and_from _ _ (and_from _ _ (and_from _ _ (and_from _ _ (last_good can_run main_in main_said None all refl good) (last_good can_run pre_start_in pre_start_said None all refl good)) (last_good can_run post_start_in post_start_said None all refl good)) (last_good can_run pre_stop_in pre_stop_said None all refl good)) (last_good can_run post_stop_in post_stop_said None all refl good)))
    (and_from _ _ (last_good can_await start_in start_said None all refl good) (last_good can_await stop_in stop_said None all refl good))

-- the jobs of a folder

record StanzasGood (stanzas : List Stanza) : Type 0 where
  good : AllGood StanzaGood stanzas
  few : FewKeys stanzas

read_good : (bytes : List ℕ) (stanzas : List Stanza) → conf_of bytes ≡ Ok stanzas → StanzasGood stanzas
read_good bytes stanzas is =
    let conf = conf_is bytes stanzas is in
    record { good = conf_good bytes stanzas conf; few = few_keys stanzas conf.few }

none_good : StanzasGood []
none_good = record { good = tt; few = record { set = omega arith; exported = omega arith } }

override_good : (files : List File) (name : List ℕ) → StanzasGood (override_of files name)
unfolding override_of
override_good files name = by_bytes (bytes_at (name ++ codes ".override") files)
  where
    by_conf : (bytes : List ℕ) (conf : Result (List Stanza) ℕ) → conf_of bytes ≡ conf → StanzasGood (unwrap_or (result_ok conf) [])
    by_conf bytes (Ok stanzas) is = read_good bytes stanzas is
    by_conf bytes (Err line) is = none_good

    by_bytes : (found : Option (List ℕ)) → StanzasGood (unwrap_or (option_and_then (λ bytes. result_ok (conf_of bytes)) found) [])
    by_bytes None = none_good
    by_bytes (Some bytes) = by_conf bytes (conf_of bytes) refl

abbrev IsGivenAs : List ℕ → JobDef → Type 0
IsGivenAs name job = (is_definable job ≡ true) × (name ≡ job.name)

named_job : (name : List ℕ) (stanzas : List Stanza) → name ≡ (job_of name stanzas).name
unfolding job_of
named_job name stanzas = refl

job_in_given : (files : List File) (name bytes : List ℕ) (job : JobDef) → job_in files name bytes ≡ Some job → IsGivenAs name job
unfolding job_in
job_in_given files name bytes job is = by_name (is_name name) refl is
  where
    by_conf : (conf : Result (List Stanza) ℕ) → is_name name ≡ true → conf_of bytes ≡ conf → option_map (λ stanzas. job_of name (stanzas ++ override_of files name)) (result_ok conf) ≡ Some job → IsGivenAs name job
    by_conf (Err line) named e none = absurd (cc)
    by_conf (Ok stanzas) named e some =
        let same : job_of name (stanzas ++ override_of files name) ≡ job = cc in
        let one = read_good bytes stanzas e in
        let other = override_good files name in
        subst (IsGivenAs name) same
        (job_given name stanzas (override_of files name) named (all_good stanzas (override_of files name) one.good other.good) one.few other.few, named_job name (stanzas ++ override_of files name))

    by_name : (b : Bool) → is_name name ≡ b → cond b (option_map (λ stanzas. job_of name (stanzas ++ override_of files name)) (result_ok (conf_of bytes))) None ≡ Some job → IsGivenAs name job
    by_name true named some = by_conf (conf_of bytes) named refl some
    by_name false named none = absurd (cc)

file_given : (files : List File) (file : File) (job : JobDef) → job_of_file files file ≡ Some job → (is_definable job ≡ true) × (job_name file.path ≡ Some job.name)
file_given files file job is =
    let made = chosen (λ name. job_in files name file.bytes) (job_name file.path) job is in
    let given = job_in_given files made.x file.bytes job made.gives in
    (given.0, made.is ∙ ap Some given.1)

all_given : (all files : List File) → list_all is_definable (filter_map (job_of_file all) files) ≡ true
all_given all [] = refl
all_given all (file ∷ files) = by_job (job_of_file all file) refl (all_given all files)
  where
    by_job : (found : Option JobDef) → job_of_file all file ≡ found → list_all is_definable (filter_map (job_of_file all) files) ≡ true → list_all is_definable (cons_option found (filter_map (job_of_file all) files)) ≡ true
    by_job None is later = later
    by_job (Some job) is later = and_from _ _ (file_given all file job is).0 later

pub folder_given : (files : List File) → has_twice (read_paths files) ≡ false → are_definable (jobs_of files) ≡ true
unfolding are_definable jobs_of
folder_given files apart =
    let jobs = filter_map (job_of_file files) files in
    and_from _ _ (sorted_up jobs (names_apart files (λ file job is. (file_given files file job is).1) files apart)) (sorted_all is_definable jobs (all_given files files))

-- what a folder is compiled to
pub table_given : (files : List File) (table : List JobDef) (report : List Fault) → Compiles files table report → are_definable table ≡ true
table_given files table report made = ap are_definable made.jobs ∙ folder_given files made.apart
