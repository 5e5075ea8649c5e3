-- A job that files can give is found where its part stands.
use Rattle.std.proofs.Common.{◌≡◌, ℕ, ◌+◌, ◌≤◌, Bool, true, false, ◌&&◌, List, [], ◌∷◌, ◌++◌, length, Option, None, Some, option_and_then, refl, sym, ap, ◌∙◌, append_assoc, arith, nat_le, eqb-true}
use Rattle.std.specs.List.{flat_map, list_all}
use Rattle.std.proofs.lemmas.Bool.{and_parts, leb-true, le-leb}
use Rattle.byteorder.specs.Endian.{big_bytes}
use Rattle.up_expr.specs.Flat.{nodes_of, size}
use Rattle.up_expr.specs.Trees.{Tree}
use Rattle.up_expr.proofs.Flattening.{length_nodes}
use Rattle.up_stanza.specs.declared.exit.Exit.{Exit}
use Rattle.up_stanza.specs.declared.setting.Setting.{Setting}
use Rattle.up_stanza.specs.Signals.{hup, is_signal}
use Rattle.up_conf.specs.declared.job.JobDef.{JobDef}
use Rattle.up_text.specs.Expansion.{is_expandable}
use Rattle.up_text.specs.Names.{is_name, is_key}
use Rattle.up_image.specs.declared.job_parts.Texts.{Texts}
use Rattle.up_image.specs.declared.job_parts.Numbers.{Numbers}
use Rattle.up_image.specs.declared.job_parts.Signals.{Signals}
use Rattle.up_image.specs.declared.job_parts.Lists.{Lists}
use Rattle.up_image.specs.declared.job_parts.Processes.{Processes}
use Rattle.up_image.specs.declared.job_parts.Events.{Events}
use Rattle.up_image.specs.Image as image
use Rattle.up_image.specs.Definable as definable
use Rattle.up_image.specs.Finding as found
use Rattle.up_image.specs.Finding.{Found, name_at, text_at, list_at, number_at, items_at, setting_at, exit_at, action_at, trees_at, condition_at, texts_at, numbers_at, lists_at, processes_at, events_at, job_at}
use Rattle.up_image.specs.Texts.{text_part}
use Rattle.up_image.specs.Versions.{fits_reload}
use Rattle.up_image.specs.declared.version.Version.{Version}
use Rattle.up_image.specs.declared.version.Version.TheVariants.{One, Two}
use Rattle.up_image.specs.declared.limits.TheConstants.{MAX_COUNT, MAX_DEPTH, MAX_IMAGE, MAX_ITEMS, MAX_KEYS, MAX_NODES, MAX_SECONDS}
use Rattle.up_image.proofs.Decoding.{Decodes, shorter, two_found, four_found, list_decodes}
use Rattle.up_image.proofs.PartDecoding.{name_decodes, key_decodes, token_decodes, setting_decodes, exit_decodes, action_decodes, trees_found, both_found}

-- an expression
abbrev is_condition : Option Tree → Bool
is_condition condition = definable.can_await condition && image.fits_condition condition

trees_are : (tree : Tree) (r : List ℕ) → definable.are_leaves tree ≡ true → list_all image.fits_node (nodes_of 0 tree) ≡ true → nat_le (size tree) MAX_NODES ≡ true
    → length (flat_map image.node_part (nodes_of 0 tree) ++ r) ≤ MAX_IMAGE
    → found.trees_by (length (nodes_of 0 tree), flat_map image.node_part (nodes_of 0 tree) ++ r) ≡ Some (Some tree, r)
trees_are tree r are fit short small =
    let long = length_nodes 0 tree in
    let few : nat_le (length (nodes_of 0 tree)) MAX_NODES ≡ true = le-leb (length (nodes_of 0 tree)) MAX_NODES (omega (arith, long, leb-true (size tree) MAX_NODES short)) in
    rw (few, trees_found tree 0 (length (nodes_of 0 tree)) 0 [] r are fit (omega (arith, long)) small) refl

condition_decodes : Decodes (λ condition. image.list_part image.node_part (image.nodes_in condition)) condition_at is_condition
unfolding condition_at
condition_decodes = record { finds = by_case }
  where
    by_case : (condition : Option Tree) (r : List ℕ) → is_condition condition ≡ true → length (image.list_part image.node_part (image.nodes_in condition) ++ r) ≤ MAX_IMAGE
        → condition_at (image.list_part image.node_part (image.nodes_in condition) ++ r) ≡ Some (condition, r)
    by_case None r is small = rw (two_found 0 r (omega arith)) refl
    by_case (Some tree) r is small =
        let nodes = nodes_of 0 tree in
        let parts = and_parts (definable.can_await (Some tree)) (image.fits_condition (Some tree)) is in
        let whole = and_parts (definable.are_leaves tree && definable.is_shallow MAX_DEPTH tree) (image.is_short (Some tree)) parts.0 in
        let leaves = and_parts (definable.are_leaves tree) (definable.is_shallow MAX_DEPTH tree) whole.0 in
        let fits = and_parts (nat_le (size tree) MAX_NODES) (list_all image.fits_node nodes) parts.1 in
        let apart = append_assoc (big_bytes 2 (length nodes)) (flat_map image.node_part nodes) r in
        let small_whole : length (big_bytes 2 (length nodes) ++ (flat_map image.node_part nodes ++ r)) ≤ MAX_IMAGE = omega (arith, small, ap length apart) in
        ap (λ bytes. option_and_then found.trees_by (number_at 2 bytes)) apart
        ∙ ap (λ x. option_and_then found.trees_by x) (two_found (length nodes) (flat_map image.node_part nodes ++ r) (omega (arith, length_nodes 0 tree, leb-true (size tree) MAX_NODES fits.0)))
        ∙ trees_are tree r leaves.0 fits.1 fits.0 (shorter (big_bytes 2 (length nodes)) (flat_map image.node_part nodes ++ r) small_whole)

-- parts one after another
three_apart : (a b c r : List ℕ) → (a ++ b ++ c) ++ r ≡ a ++ (b ++ (c ++ r))
three_apart a b c r = append_assoc (a ++ b) c r ∙ append_assoc a b (c ++ r)

four_apart : (a b c d r : List ℕ) → (a ++ b ++ c ++ d) ++ r ≡ a ++ (b ++ (c ++ (d ++ r)))
four_apart a b c d r = append_assoc (a ++ b ++ c) d r ∙ three_apart a b c (d ++ r)

five_apart : (a b c d e r : List ℕ) → (a ++ b ++ c ++ d ++ e) ++ r ≡ a ++ (b ++ (c ++ (d ++ (e ++ r))))
five_apart a b c d e r = append_assoc (a ++ b ++ c ++ d) e r ∙ four_apart a b c d (e ++ r)

regrouped : (one other : List ℕ) → one ≡ other → length one ≤ MAX_IMAGE → length other ≤ MAX_IMAGE
regrouped one other is small = omega (arith, small, ap length is)

-- a job's own texts
abbrev texts : JobDef → Texts
texts job = record { name = job.name; flags = image.flags job; instance = job.instance; dir = job.dir }

texts_found : (job : JobDef) (r : List ℕ) → definable.has_texts job ≡ true → length (image.text_parts job ++ r) ≤ MAX_IMAGE → texts_at (image.text_parts job ++ r) ≡ Some (texts job, r)
unfolding texts_at
texts_found job r is small =
    let last = and_parts _ (definable.is_token job.dir) is in
    let front = and_parts _ (is_expandable job.instance) last.0 in
    let first = and_parts (is_name job.name) (definable.is_token job.instance) front.0 in
    let byte = image.flags job ∷ [] in
    let d = text_part job.dir ++ r in
    let i = text_part job.instance ++ d in
    let apart = four_apart (text_part job.name) byte (text_part job.instance) (text_part job.dir) r in
    let s0 = regrouped _ (text_part job.name ++ (byte ++ i)) apart small in
    let s1 = shorter (text_part job.name) (byte ++ i) s0 in
    let s2 = shorter byte i s1 in
    let s3 = shorter (text_part job.instance) d s2 in
    rw (apart, name_decodes.finds job.name (byte ++ i) first.0 s0, token_decodes.finds job.instance d first.1 s2, token_decodes.finds job.dir r last.1 s3) refl

-- its numbers
abbrev numbers : JobDef → Numbers
numbers job = record { limit = job.limit; kill_signal = job.kill_signal; kill_timeout = job.kill_timeout; reload_signal = job.reload_signal }

numbers_by : (version : Version) (bytes i k s t r : List ℕ) (count interval signal reload timeout : ℕ) → number_at 4 bytes ≡ Some (count, i) → number_at 4 i ≡ Some (interval, k) → found.byte_at k ≡ Some (signal, s)
    → found.reload_at version s ≡ Some (reload, t) → number_at 4 t ≡ Some (timeout, r)
    → numbers_at version bytes ≡ Some (record { limit = record { count = count; interval = interval }; kill_signal = signal; kill_timeout = timeout; reload_signal = reload }, r)
unfolding numbers_at
numbers_by version bytes i k s t r count interval signal reload timeout one two three four five = rw (one, two, three, four, five) refl

-- in version 1 the signal is HUP
reload_found : (version : Version) (job : JobDef) (r : List ℕ) → fits_reload version job.reload_signal ≡ true
    → found.reload_at version (image.reload_part version job ++ r) ≡ Some (job.reload_signal, r)
reload_found One job r fit = ap (λ signal. Some (signal, r)) (sym (eqb-true job.reload_signal hup fit))
reload_found Two job r fit = refl

numbers_found : (version : Version) (job : JobDef) (r : List ℕ) → image.fits_numbers version job ≡ true → definable.has_numbers job ≡ true → numbers_at version (image.number_parts version job ++ r) ≡ Some (numbers job, r)
numbers_found version job r fit is =
    let fits = and_parts _ (fits_reload version job.reload_signal) (and_parts _ (image.fits_number job.kill_timeout) fit).0 in
    let end = and_parts _ (is_signal job.reload_signal) is in
    let last = and_parts _ (nat_le job.kill_timeout MAX_SECONDS) end.0 in
    let front = and_parts _ (is_signal job.kill_signal) last.0 in
    let first = and_parts (nat_le job.limit.count MAX_COUNT) (nat_le job.limit.interval MAX_SECONDS) front.0 in
    let t = big_bytes 4 job.kill_timeout ++ r in
    let s = image.reload_part version job ++ t in
    let k = (job.kill_signal ∷ []) ++ s in
    let i = big_bytes 4 job.limit.interval ++ k in
    ap (λ bytes. numbers_at version bytes) (five_apart (big_bytes 4 job.limit.count) (big_bytes 4 job.limit.interval) (job.kill_signal ∷ []) (image.reload_part version job) (big_bytes 4 job.kill_timeout) r)
    ∙ numbers_by version (big_bytes 4 job.limit.count ++ i) i k s t r job.limit.count job.limit.interval job.kill_signal job.reload_signal job.kill_timeout
    (four_found job.limit.count i (omega (arith, leb-true job.limit.count MAX_COUNT first.0)))
    (four_found job.limit.interval k (omega (arith, leb-true job.limit.interval MAX_SECONDS first.1)))
    refl
    (reload_found version job t fits.1)
    (four_found job.kill_timeout r (omega (arith, leb-true job.kill_timeout MAX_SECONDS last.1)))

abbrev signals : JobDef → Signals
signals job = record { kill = job.kill_signal; reload = job.reload_signal }

signals_found : (job : JobDef) → definable.has_numbers job ≡ true → found.signals_of (numbers job) ≡ Some (signals job)
signals_found job is =
    let end = and_parts _ (is_signal job.reload_signal) is in
    let last = and_parts _ (nat_le job.kill_timeout MAX_SECONDS) end.0 in
    rw ((and_parts _ (is_signal job.kill_signal) last.0).1, end.1) refl

-- its lists
abbrev lists : JobDef → Lists
lists job = record { env = job.env; export = job.export; normal = job.normal }

keys_few : (n : ℕ) → nat_le n MAX_KEYS ≡ true → nat_le n MAX_ITEMS ≡ true
keys_few n few = le-leb n MAX_ITEMS (omega (arith, leb-true n MAX_KEYS few))

lists_by : (bytes k x r : List ℕ) (env : List Setting) (keys : List (List ℕ)) (exits : List Exit) → list_at setting_at bytes ≡ Some (env, k) → list_at text_at k ≡ Some (keys, x) → list_at exit_at x ≡ Some (exits, r)
    → lists_at bytes ≡ Some (record { env = env; export = keys; normal = exits }, r)
unfolding lists_at
lists_by bytes k x r env keys exits one two three = rw (one, two, three) refl

lists_found : (job : JobDef) (r : List ℕ) → definable.has_lists job ≡ true → image.is_countable job.normal ≡ true → length (image.set_part job ++ r) ≤ MAX_IMAGE → lists_at (image.set_part job ++ r) ≡ Some (lists job, r)
lists_found job r is few small =
    let last = and_parts _ (definable.are_exits job.normal) is in
    let first = and_parts (definable.can_set job.env) (definable.can_export job.export) last.0 in
    let env = and_parts (nat_le (length job.env) MAX_KEYS) (list_all definable.is_setting job.env) (and_parts _ _ first.0).0 in
    let keys = and_parts (nat_le (length job.export) MAX_KEYS) (list_all is_key job.export) (and_parts _ _ first.1).0 in
    let exits = and_parts (list_all definable.is_exit job.normal) (definable.are_apart job.normal) last.1 in
    let e = image.list_part image.setting_part job.env in
    let k = image.list_part text_part job.export in
    let x = image.list_part image.exit_part job.normal in
    let apart = three_apart e k x r in
    let s0 = regrouped _ (e ++ (k ++ (x ++ r))) apart small in
    let s1 = shorter e (k ++ (x ++ r)) s0 in
    let s2 = shorter k (x ++ r) s1 in
    ap lists_at apart
    ∙ lists_by (e ++ (k ++ (x ++ r))) (k ++ (x ++ r)) (x ++ r) r job.env job.export job.normal
    ((list_decodes setting_decodes).finds job.env (k ++ (x ++ r)) (rw (keys_few (length job.env) env.0, env.1) refl) s0)
    ((list_decodes key_decodes).finds job.export (x ++ r) (rw (keys_few (length job.export) keys.0, keys.1) refl) s1)
    ((list_decodes exit_decodes).finds job.normal r (rw (few, exits.0) refl) s2)

-- its processes
abbrev processes : JobDef → Processes
processes job = record { main = job.main; pre_start = job.pre_start; post_start = job.post_start; pre_stop = job.pre_stop; post_stop = job.post_stop }

processes_found : (job : JobDef) (r : List ℕ) → definable.has_processes job ≡ true → length (image.process_part job ++ r) ≤ MAX_IMAGE → processes_at (image.process_part job ++ r) ≡ Some (processes job, r)
unfolding processes_at
processes_found job r is small =
    let p4 = and_parts _ (definable.can_run job.post_stop) is in
    let p3 = and_parts _ (definable.can_run job.pre_stop) p4.0 in
    let p2 = and_parts _ (definable.can_run job.post_start) p3.0 in
    let p1 = and_parts (definable.can_run job.main) (definable.can_run job.pre_start) p2.0 in
    let a = image.action_part job.main in
    let b = image.action_part job.pre_start in
    let c = image.action_part job.post_start in
    let d = image.action_part job.pre_stop in
    let e = image.action_part job.post_stop in
    let apart = five_apart a b c d e r in
    let s0 = regrouped _ (a ++ (b ++ (c ++ (d ++ (e ++ r))))) apart small in
    let s1 = shorter a (b ++ (c ++ (d ++ (e ++ r)))) s0 in
    let s2 = shorter b (c ++ (d ++ (e ++ r))) s1 in
    let s3 = shorter c (d ++ (e ++ r)) s2 in
    let s4 = shorter d (e ++ r) s3 in
    rw (
      apart,
      action_decodes.finds job.main (b ++ (c ++ (d ++ (e ++ r)))) p1.0 s0,
      action_decodes.finds job.pre_start (c ++ (d ++ (e ++ r))) p1.1 s1,
      action_decodes.finds job.post_start (d ++ (e ++ r)) p2.1 s2,
      action_decodes.finds job.pre_stop (e ++ r) p3.1 s3,
      action_decodes.finds job.post_stop r p4.1 s4,
    ) refl

-- its expressions
abbrev events : JobDef → Events
events job = record { start_on = job.start_on; stop_on = job.stop_on }

events_found : (job : JobDef) (r : List ℕ) → definable.has_events job ≡ true → image.fits_events job ≡ true → length (image.event_part job ++ r) ≤ MAX_IMAGE → events_at (image.event_part job ++ r) ≡ Some (events job, r)
unfolding events_at
events_found job r is fit small =
    let parts = and_parts (definable.can_await job.start_on) (definable.can_await job.stop_on) is in
    let fits = and_parts (image.fits_condition job.start_on) (image.fits_condition job.stop_on) fit in
    both_found (λ start stop. record { start_on = start; stop_on = stop }) condition_decodes condition_decodes job.start_on job.stop_on r (rw (parts.0, fits.0) refl) (rw (parts.1, fits.1) refl) small

-- the flags
flags_read : (a b c : Bool)
    → (found.has_flag 1 (image.bit 1 a + image.bit 2 b + image.bit 4 c) ≡ a) × (found.has_flag 2 (image.bit 1 a + image.bit 2 b + image.bit 4 c) ≡ b) × (found.has_flag 4 (image.bit 1 a + image.bit 2 b + image.bit 4 c) ≡ c)
flags_read true true true = (refl, refl, refl)
flags_read true true false = (refl, refl, refl)
flags_read true false true = (refl, refl, refl)
flags_read true false false = (refl, refl, refl)
flags_read false true true = (refl, refl, refl)
flags_read false true false = (refl, refl, refl)
flags_read false false true = (refl, refl, refl)
flags_read false false false = (refl, refl, refl)

whole_job : (job : JobDef) → found.job_by (texts job) (numbers job) (signals job) (lists job) (processes job) (events job) ≡ job
whole_job job = let read = flags_read job.task job.respawn job.silent in rw (read.0, read.1, read.2) refl

-- a job
abbrev pub is_found_job : Version → JobDef → Bool
is_found_job version job = image.fits version job && definable.is_definable job

job_found : (version : Version) (job : JobDef) (r : List ℕ) → is_found_job version job ≡ true → length (image.job_part version job ++ r) ≤ MAX_IMAGE → job_at version (image.job_part version job ++ r) ≡ Some (job, r)
unfolding job_at image.job_part image.fits definable.is_definable
job_found version job r is small =
    let both = and_parts (image.fits version job) (definable.is_definable job) is in
    let fit_events = and_parts _ (image.fits_events job) both.0 in
    let fit_processes = and_parts _ (image.fits_processes job) fit_events.0 in
    let fit_lists = and_parts (image.fits_numbers version job) (image.fits_lists job) fit_processes.0 in
    let few = (and_parts _ (image.is_countable job.normal) fit_lists.1).1 in
    let g4 = and_parts _ (definable.has_events job) both.1 in
    let g3 = and_parts _ (definable.has_processes job) g4.0 in
    let g2 = and_parts _ (definable.has_lists job) g3.0 in
    let g1 = and_parts (definable.has_texts job) (definable.has_numbers job) g2.0 in
    let t = image.text_parts job in
    let n = image.number_parts version job in
    let s = image.set_part job in
    let p = image.process_part job in
    let e = image.event_part job in
    let apart = five_apart t n s p e r in
    let s0 = regrouped _ (t ++ (n ++ (s ++ (p ++ (e ++ r))))) apart small in
    let s1 = shorter t (n ++ (s ++ (p ++ (e ++ r)))) s0 in
    let s2 = shorter n (s ++ (p ++ (e ++ r))) s1 in
    let s3 = shorter s (p ++ (e ++ r)) s2 in
    let s4 = shorter p (e ++ r) s3 in
    rw (
      apart,
      texts_found job (n ++ (s ++ (p ++ (e ++ r)))) g1.0 s0,
      numbers_found version job (s ++ (p ++ (e ++ r))) fit_lists.0 g1.1,
      signals_found job g1.1,
      lists_found job (p ++ (e ++ r)) g2.1 few s2,
      processes_found job (e ++ r) g3.1 s3,
      events_found job r g4.1 fit_events.1 s4,
    ) (ap (λ found. Some (found, r)) (whole_job job))

pub job_decodes : (version : Version) → Decodes (image.job_part version) (job_at version) (is_found_job version)
job_decodes version = record { finds = job_found version }
