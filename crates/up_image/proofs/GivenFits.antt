-- Jobs that files can give have numbers and lists that an image can say.
use Rattle.std.proofs.Common.{◌≡◌, ℕ, ◌+◌, ◌<◌, ◌≤◌, Bool, true, false, not, ◌&&◌, ◌||◌, nat_le, nat_eq, List, [], ◌∷◌, length, map, Option, None, Some, refl, ◌∙◌, arith}
use Rattle.std.specs.List.{list_all, list_any, AllByRecursion, IsDistinct}
use Rattle.std.proofs.lemmas.Bool.{and_from, and_parts, le-leb, leb-true, ne_eqb, eqb-true, eqb-false, false≢true}
use Rattle.std.proofs.lemmas.List.{length-map}
use Rattle.std.proofs.lemmas.Map.Steps.{length-le_from_distinct_below}
use Rattle.up_expr.specs.declared.node.Node.{Node}
use Rattle.up_expr.specs.declared.node.Node.TheVariants as node
use Rattle.up_expr.specs.Flat.{nodes_of}
use Rattle.up_expr.specs.Trees.{Tree}
use Rattle.up_stanza.specs.declared.action.Action.{Action}
use Rattle.up_stanza.specs.declared.action.Action.TheVariants.{Words, Shell}
use Rattle.up_stanza.specs.declared.exit.Exit.{Exit}
use Rattle.up_stanza.specs.declared.exit.Exit.TheVariants as exit
use Rattle.up_stanza.specs.Signals.{is_signal}
use Rattle.up_text.specs.Names.{is_name}
use Rattle.up_text.specs.Scripts.{is_filled}
use Rattle.up_expr.specs.Values.{is_ordered}
use Rattle.up_conf.specs.declared.folder.File.{File}
use Rattle.up_conf.specs.declared.job.JobDef.{JobDef}
use Rattle.up_conf.specs.Folders.{jobs_of}
use Rattle.up_stanza.specs.Exits.{same_exit}
use Rattle.up_image.specs.Compiling.{has_twice, read_paths}
use Rattle.up_image.specs.Definable.{are_ascending, are_apart, are_exits, are_leaves, are_definable, can_await, is_definable, can_export, can_run, can_set, has_events, has_lists, has_numbers, has_processes, has_texts, is_exit, is_node, is_setting, is_shallow, is_test, is_word}
use Rattle.up_image.specs.Image.{body_of, fits, fits_action, fits_condition, fits_lists, fits_node, fits_numbers, fits_processes, has_image, is_countable, is_short}
use Rattle.up_image.specs.declared.version.Version.TheVariants.{Two}
use Rattle.up_image.specs.declared.limits.TheConstants.{MAX_COUNT, MAX_DEPTH, MAX_IMAGE, MAX_ITEMS, MAX_JOBS, MAX_KEYS, MAX_SECONDS}
use Rattle.up_image.proofs.Fitting.{leaves_given}
use Rattle.up_image.proofs.GivenJobs.{folder_given}

le_more : (n low high : ℕ) → nat_le n low ≡ true → low ≤ high → nat_le n high ≡ true
le_more n low high is le = le-leb n high (omega (arith, leb-true n low is, le))

-- exits that are distinct are few: a number for each
abbrev code : Exit → ℕ
code (exit.Status status) = status
code (exit.Signal signal) = 256 + signal

code_small : (x : Exit) → is_exit x ≡ true → code x < 288
code_small (exit.Status status) is = omega (arith, leb-true status 255 is)
code_small (exit.Signal signal) is = omega (arith, leb-true signal 31 (and_parts (nat_le 1 signal) (nat_le signal 31) is).1)

code_apart : (x y : Exit) → same_exit x y ≡ false → is_exit x ≡ true → is_exit y ≡ true → nat_eq (code x) (code y) ≡ false
code_apart (exit.Status a) (exit.Status b) other one two = other
code_apart (exit.Signal a) (exit.Signal b) other one two = ne_eqb (256 + a) (256 + b) (λ e. eqb-false a b other (omega (arith, e)))
code_apart (exit.Status a) (exit.Signal b) other one two = ne_eqb a (256 + b) (λ e. omega (arith, e, leb-true a 255 one))
code_apart (exit.Signal a) (exit.Status b) other one two = ne_eqb (256 + a) b (λ e. omega (arith, e, leb-true b 255 two))

neither : (a b : Bool) → (a || b) ≡ false → (a ≡ false) × (b ≡ false)
neither true b e = absurd (cc)
neither false b e = (refl, e)

is_not : (b : Bool) → not b ≡ true → b ≡ false
is_not true e = absurd (cc)
is_not false e = refl

all_apart : (x : Exit) (xs : List Exit) → is_exit x ≡ true → list_all is_exit xs ≡ true → list_any (same_exit x) xs ≡ false
    → AllByRecursion (λ (n : ℕ). nat_eq (code x) n ≡ false) (map code xs)
all_apart x [] is all none = tt
all_apart x (y ∷ ys) is all none =
    let parts = and_parts (is_exit y) (list_all is_exit ys) all in
    let others = neither (same_exit x y) (list_any (same_exit x) ys) none in
    (code_apart x y others.0 is parts.0, all_apart x ys is parts.1 others.1)

codes_distinct : (xs : List Exit) → list_all is_exit xs ≡ true → are_apart xs ≡ true → IsDistinct nat_eq (map code xs)
unfolding IsDistinct
codes_distinct [] all apart = tt
codes_distinct (x ∷ xs) all apart =
    let parts = and_parts (is_exit x) (list_all is_exit xs) all in
    let others = and_parts (not (list_any (same_exit x) xs)) (are_apart xs) apart in
    (all_apart x xs parts.0 parts.1 (is_not (list_any (same_exit x) xs) others.0), codes_distinct xs parts.1 others.1)

codes_small : (xs : List Exit) (q : ℕ) → list_all is_exit xs ≡ true → list_any (nat_eq q) (map code xs) ≡ true → q < 288
codes_small [] q all is = absurd (false≢true is)
codes_small (x ∷ xs) q all is =
    let parts = and_parts (is_exit x) (list_all is_exit xs) all in
    by_case (nat_eq q (code x)) refl parts.0 (codes_small xs q parts.1) is
  where
    by_case : (b : Bool) → nat_eq q (code x) ≡ b → is_exit x ≡ true → (list_any (nat_eq q) (map code xs) ≡ true → q < 288) → (b || list_any (nat_eq q) (map code xs)) ≡ true → q < 288
    by_case true e good rest found = omega (arith, eqb-true q (code x) e, code_small x good)
    by_case false e good rest found = rest found

exits_fit : (xs : List Exit) → are_exits xs ≡ true → is_countable xs ≡ true
exits_fit xs is =
    let parts = and_parts (list_all is_exit xs) (are_apart xs) is in
    le-leb (length xs) MAX_ITEMS
    (omega (arith, length-map xs code, length-le_from_distinct_below (map code xs) 288 (codes_distinct xs parts.0 parts.1) (λ q found. codes_small xs q parts.0 found)))

numbers_fit : (job : JobDef) → has_numbers job ≡ true → fits_numbers Two job ≡ true
numbers_fit job is =
    let end = and_parts (nat_le job.limit.count MAX_COUNT && nat_le job.limit.interval MAX_SECONDS && is_signal job.kill_signal && nat_le job.kill_timeout MAX_SECONDS) (is_signal job.reload_signal) is in
    let last = and_parts (nat_le job.limit.count MAX_COUNT && nat_le job.limit.interval MAX_SECONDS && is_signal job.kill_signal) (nat_le job.kill_timeout MAX_SECONDS) end.0 in
    let front = and_parts (nat_le job.limit.count MAX_COUNT && nat_le job.limit.interval MAX_SECONDS) (is_signal job.kill_signal) last.0 in
    let limit = and_parts (nat_le job.limit.count MAX_COUNT) (nat_le job.limit.interval MAX_SECONDS) front.0 in
    and_from _ _ (and_from _ _ (and_from _ _ (le_more job.limit.count MAX_COUNT 4294967295 limit.0 (omega arith)) (le_more job.limit.interval MAX_SECONDS 4294967295 limit.1 (omega arith))) refl)
    (le_more job.kill_timeout MAX_SECONDS 4294967295 last.1 (omega arith))

lists_fit : (job : JobDef) → has_lists job ≡ true → fits_lists job ≡ true
lists_fit job is =
    let last = and_parts (can_set job.env && can_export job.export) (are_exits job.normal) is in
    let front = and_parts (can_set job.env) (can_export job.export) last.0 in
    let set = and_parts (nat_le (length job.env) MAX_KEYS && list_all is_setting job.env) _ front.0 in
    let exports = and_parts (nat_le (length job.export) MAX_KEYS && list_all _ job.export) _ front.1 in
    and_from _ _ (and_from _ _ (le_more (length job.env) MAX_KEYS MAX_ITEMS (and_parts (nat_le (length job.env) MAX_KEYS) _ set.0).0 (omega arith))
    (le_more (length job.export) MAX_KEYS MAX_ITEMS (and_parts (nat_le (length job.export) MAX_KEYS) _ exports.0).0 (omega arith)))
    (exits_fit job.normal last.1)

action_fits : (action : Option Action) → can_run action ≡ true → fits_action action ≡ true
action_fits None is = refl
action_fits (Some (Words words)) is = (and_parts (is_filled words) (nat_le (length words) MAX_ITEMS) (and_parts (is_filled words && nat_le (length words) MAX_ITEMS) (list_all is_word words) is).0).1
action_fits (Some (Shell text)) is = refl

processes_fit : (job : JobDef) → has_processes job ≡ true → fits_processes job ≡ true
processes_fit job is =
    let four = and_parts (can_run job.main && can_run job.pre_start && can_run job.post_start && can_run job.pre_stop) (can_run job.post_stop) is in
    let three = and_parts (can_run job.main && can_run job.pre_start && can_run job.post_start) (can_run job.pre_stop) four.0 in
    let two = and_parts (can_run job.main && can_run job.pre_start) (can_run job.post_start) three.0 in
    let one = and_parts (can_run job.main) (can_run job.pre_start) two.0 in
    and_from _ _ (and_from _ _ (and_from _ _ (and_from _ _ (action_fits job.main one.0) (action_fits job.pre_start one.1)) (action_fits job.post_start two.1)) (action_fits job.pre_stop three.1))
    (action_fits job.post_stop four.1)

-- a leaf's values are counted among what makes it one
nodes_fit : (nodes : List Node) → list_all is_node nodes ≡ true → list_all fits_node nodes ≡ true
nodes_fit [] is = refl
nodes_fit (node.Leaf leaf ∷ nodes) is =
    let parts = and_parts (is_name leaf.event && list_all is_test leaf.values && is_ordered leaf.values && is_countable leaf.values) (list_all is_node nodes) is in
    and_from _ _ (and_parts (is_name leaf.event && list_all is_test leaf.values && is_ordered leaf.values) (is_countable leaf.values) parts.0).1 (nodes_fit nodes parts.1)
nodes_fit (node.And left right ∷ nodes) is = nodes_fit nodes is
nodes_fit (node.Or left right ∷ nodes) is = nodes_fit nodes is

condition_fits : (condition : Option Tree) → can_await condition ≡ true → fits_condition condition ≡ true
condition_fits None is = refl
condition_fits (Some tree) is =
    let last = and_parts (are_leaves tree && is_shallow MAX_DEPTH tree) (is_short (Some tree)) is in
    let front = and_parts (are_leaves tree) (is_shallow MAX_DEPTH tree) last.0 in
    and_from _ _ last.1 (nodes_fit (nodes_of 0 tree) (leaves_given 0 tree ∙ front.0))

-- a job that files can give fits
pub job_fits : (job : JobDef) → is_definable job ≡ true → fits Two job ≡ true
unfolding is_definable fits
job_fits job is =
    let four = and_parts (has_texts job && has_numbers job && has_lists job && has_processes job) (has_events job) is in
    let three = and_parts (has_texts job && has_numbers job && has_lists job) (has_processes job) four.0 in
    let two = and_parts (has_texts job && has_numbers job) (has_lists job) three.0 in
    let one = and_parts (has_texts job) (has_numbers job) two.0 in
    let events = and_parts (can_await job.start_on) (can_await job.stop_on) four.1 in
    and_from _ _ (and_from _ _ (and_from _ _ (numbers_fit job one.1) (lists_fit job two.1)) (processes_fit job three.1))
    (and_from _ _ (condition_fits job.start_on events.0) (condition_fits job.stop_on events.1))

jobs_fit : (jobs : List JobDef) → list_all is_definable jobs ≡ true → list_all (fits Two) jobs ≡ true
jobs_fit [] is = refl
jobs_fit (job ∷ jobs) is =
    let parts = and_parts (is_definable job) (list_all is_definable jobs) is in
    and_from _ _ (job_fits job parts.0) (jobs_fit jobs parts.1)

-- the jobs of a folder fit
pub files_fit : (files : List File) → has_twice (read_paths files) ≡ false → list_all (fits Two) (jobs_of files) ≡ true
unfolding are_definable
files_fit files apart =
    jobs_fit (jobs_of files) (and_parts (are_ascending (map (λ (job : JobDef). job.name) (jobs_of files))) (list_all is_definable (jobs_of files)) (folder_given files apart)).1

-- so they have an image exactly if that isn't too long
pub large_alone : (files : List File) → has_twice (read_paths files) ≡ false → nat_le (length (jobs_of files)) MAX_JOBS ≡ true
    → has_image (jobs_of files) ≡ nat_le (12 + length (body_of Two (jobs_of files))) MAX_IMAGE
unfolding has_image
large_alone files apart few = rw (few, files_fit files apart) refl
