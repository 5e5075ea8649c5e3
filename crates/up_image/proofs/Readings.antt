-- The jobs of an image that files can give are found in it.
use Rattle.std.proofs.Common.{◌≡◌, ℕ, ◌≤◌, true, List, [], ◌∷◌, ◌++◌, length, drop, Option, None, Some, refl, subst, sym, ap, ◌∙◌, length-append, arith}
use Rattle.std.specs.List.{flat_map, list_all}
use Rattle.std.proofs.lemmas.Bool.{and_parts}
use Rattle.byteorder.specs.Endian.{big_bytes, big_number}
use Rattle.byteorder.specs.Numbers.{big_number-reads_back}
use Rattle.up_conf.specs.declared.job.JobDef.{JobDef}
use Rattle.up_image.specs.declared.read_fault.ReadFault.{ReadFault}
use Rattle.up_image.specs.declared.read_fault.ReadFault.TheVariants.{BadTable, Memory}
use Rattle.up_image.specs.Finding.{Refuses, items_at, job_at}
use Rattle.up_image.specs.Definable.{are_definable, is_definable}
use Rattle.up_image.specs.Image.{IsVersion, body_of, fits, has_image, head_of, job_part}
use Rattle.up_image.specs.Index.{entries_of, index_part}
use Rattle.up_image.specs.Reading.{HasNoTable, HasTable, IsStored, version_at}
use Rattle.up_image.specs.declared.version.Version.{Version}
use Rattle.up_image.specs.declared.version.Version.TheVariants.{One, Two}
use Rattle.up_image.specs.declared.limits.TheConstants.{MAX_IMAGE, MAX_JOBS}
use Rattle.up_image.proofs.Decoding.{items_found}
use Rattle.up_image.proofs.Images.{has_it, same_version, says_version}
use Rattle.up_image.proofs.JobDecoding.{is_found_job, job_decodes}

all_found : (version : Version) (jobs : List JobDef) → list_all (fits version) jobs ≡ true → list_all is_definable jobs ≡ true → list_all (is_found_job version) jobs ≡ true
all_found version [] fit given = refl
all_found version (job ∷ jobs) fit given =
    let one = and_parts (fits version job) (list_all (fits version) jobs) fit in
    let other = and_parts (is_definable job) (list_all is_definable jobs) given in
    rw (one.0, other.0, all_found version jobs one.1 other.1) refl

-- how many jobs an image says that it has
counted : (version : Version) (jobs long : ℕ) (body : List ℕ) → jobs ≤ MAX_JOBS → big_number 2 (drop 6 (head_of version jobs long ++ body)) ≡ jobs
counted version jobs long body few = big_number-reads_back 2 jobs (big_bytes 4 long ++ body) (omega (arith, few))

body_after : (version : Version) (jobs long : ℕ) (body : List ℕ) → drop 12 (head_of version jobs long ++ body) ≡ body
body_after version jobs long body = refl

pub jobs_found : (version : Version) (bytes : List ℕ) (jobs : List JobDef) → IsVersion version bytes jobs → are_definable jobs ≡ true
    → items_at (job_at version) (big_number 2 (drop 6 bytes)) [] (drop 12 bytes) ≡ Some (jobs, index_part (entries_of jobs))
unfolding are_definable
jobs_found version bytes jobs image given =
    let index = index_part (entries_of jobs) in
    let head = head_of version (length jobs) (length bytes) in
    let short : length (flat_map (job_part version) jobs ++ index) ≤ MAX_IMAGE =
    omega (arith, image.small, ap length image.written, length-append head (flat_map (job_part version) jobs ++ index)) in
    let number : big_number 2 (drop 6 bytes) ≡ length jobs = ap (λ b. big_number 2 (drop 6 b)) image.written ∙ counted version (length jobs) (length bytes) (body_of version jobs) image.few in
    let body : drop 12 bytes ≡ body_of version jobs = ap (λ b. drop 12 b) image.written ∙ body_after version (length jobs) (length bytes) (body_of version jobs) in
    ap (λ n. items_at (job_at version) n [] (drop 12 bytes)) number
    ∙ ap (λ b. items_at (job_at version) (length jobs) [] b) body
    ∙ items_found (job_part version) (job_at version) (is_found_job version) (job_decodes version) jobs [] index (all_found version jobs image.counted (and_parts _ (list_all is_definable jobs) given).1) short

none_found : (found : Option (List JobDef × List ℕ)) (jobs : List JobDef) (rest : List ℕ) → found ≡ None → found ≡ Some (jobs, rest) → ⊥
none_found found jobs rest none some = absurd (cc)

-- a table is of the version that the bytes say
of_version : (version : Version) (bytes : List ℕ) (jobs : List JobDef) → version_at bytes ≡ Some version → HasTable bytes jobs → IsStored version bytes jobs
of_version version bytes jobs says (second, stored) =
    subst (λ v. IsStored v bytes jobs) (same_version second version bytes (says_version second bytes jobs stored.image) says) stored

-- where no jobs are found, there is no table
pub no_jobs : (version : Version) (bytes : List ℕ) (read_fault : ReadFault) → Refuses read_fault (items_at (job_at version) (big_number 2 (drop 6 bytes)) [] (drop 12 bytes)) → version_at bytes ≡ Some version → read_fault ≡ BadTable → HasNoTable bytes
no_jobs version bytes BadTable none says is jobs table =
    let stored = of_version version bytes jobs says table in
    none_found _ jobs (index_part (entries_of jobs)) none (jobs_found version bytes jobs stored.image stored.given)
no_jobs version bytes Memory none says is jobs table = absurd (cc)

jobs_in : Option (List JobDef × List ℕ) → List JobDef
jobs_in None = []
jobs_in (Some found) = found.0

same_found : (found : Option (List JobDef × List ℕ)) (jobs others : List JobDef) (rest after : List ℕ) → found ≡ Some (jobs, rest) → found ≡ Some (others, after) → others ≡ jobs
unfolding jobs_in
same_found found jobs others rest after one other = sym (ap jobs_in other) ∙ ap jobs_in one

-- where others are found that are none, there is no table
pub no_table : (version : Version) (bytes : List ℕ) (jobs : List JobDef) (rest : List ℕ) → version_at bytes ≡ Some version
    → items_at (job_at version) (big_number 2 (drop 6 bytes)) [] (drop 12 bytes) ≡ Some (jobs, rest)
    → (IsStored version bytes jobs → ⊥) → HasNoTable bytes
no_table version bytes jobs rest says found fails others table =
    let stored = of_version version bytes others says table in
    let same = same_found _ jobs others rest (index_part (entries_of others)) found (jobs_found version bytes others stored.image stored.given) in
    fails (subst (λ all. IsStored version bytes all) same stored)

-- jobs of an image of version 2 have one, and those of version 1 were looked at
pub new_image : (version : Version) (bytes : List ℕ) (jobs : List JobDef) → IsVersion version bytes jobs → (version ≡ One → has_image jobs ≡ true) → has_image jobs ≡ true
new_image One bytes jobs image old = old refl
new_image Two bytes jobs image old = has_it jobs bytes image
