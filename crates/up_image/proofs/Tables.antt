-- An image is that of one table.
use Rattle.std.proofs.Common.{◌≡◌, ℕ, ◌≤◌, List, ◌++◌, length, drop, refl, sym, ap, ◌∙◌, subst, length-append, arith}
use Rattle.std.specs.List.{flat_map}
use Rattle.std.proofs.lemmas.List.{map-id}
use Rattle.byteorder.specs.Endian.{big_bytes}
use Rattle.up_conf.specs.declared.job.JobDef.{JobDef}
use Rattle.up_image.specs.Image.{IsVersion, fits, job_part, head_of}
use Rattle.up_image.specs.Index.{entries_of, index_part}
use Rattle.up_image.specs.declared.version.Version.{Version}
use Rattle.up_image.specs.declared.limits.TheConstants.{MAX_IMAGE, MAX_JOBS}
use Rattle.up_image.proofs.Images.{says_version, same_version}
use Rattle.up_image.proofs.Prefixes.{same_items, same_length, same_two}
use Rattle.up_image.proofs.Telling.{job_tells}

-- equal heads are of as many jobs
same_count : (version : Version) (n m long : ℕ) → n ≤ MAX_JOBS → m ≤ MAX_JOBS → head_of version n long ≡ head_of version m long → n ≡ m
same_count version n m long few also is =
    (same_two n m (big_bytes 4 long) (big_bytes 4 long) (omega (arith, few)) (omega (arith, also)) (ap (drop 6) is)).0

same_by : (version : Version) (bytes : List ℕ) (jobs others : List JobDef) → IsVersion version bytes jobs → IsVersion version bytes others → jobs ≡ others
same_by version bytes jobs others image also =
    let index = index_part (entries_of jobs) in
    let other_index = index_part (entries_of others) in
    let cut = same_length (head_of version (length jobs) (length bytes)) (head_of version (length others) (length bytes)) (flat_map (job_part version) jobs ++ index) (flat_map (job_part version) others ++ other_index) refl
    (sym image.written ∙ also.written) in
    let counted = same_count version (length jobs) (length others) (length bytes) image.few also.few cut.0 in
    let short : length (flat_map (job_part version) jobs ++ index) ≤ MAX_IMAGE =
    omega (arith, image.small, ap length image.written, length-append (head_of version (length jobs) (length bytes)) (flat_map (job_part version) jobs ++ index)) in
    let same = (same_items (job_part version) (λ job. job) (fits version) (job_tells version) jobs others index other_index image.counted also.counted counted short cut.1).0 in
    sym (map-id jobs) ∙ same ∙ map-id others

-- versions are told apart by the head
pub same_jobs : (version second : Version) (bytes : List ℕ) (jobs others : List JobDef) → IsVersion version bytes jobs → IsVersion second bytes others → jobs ≡ others
same_jobs version second bytes jobs others image also =
    let same = same_version second version bytes (says_version second bytes others also) (says_version version bytes jobs image) in
    same_by version bytes jobs others image (subst (λ v. IsVersion v bytes others) same also)
