-- An image is determined by what stands after its head.
use Rattle.std.proofs.Common.{◌≡◌, ℕ, ◌+◌, ◌≤◌, ◌==◌, List, [], ◌∷◌, ◌++◌, true, take, drop, nat_le, refl, arith, sym, ap, ◌∙◌, length, length-append, Some}
use Rattle.std.specs.Prelude.{◌&&◌}
use Rattle.std.specs.List.{list_all}
use Rattle.std.proofs.Math.Seq.{drop-length, take-append_seam}
use Rattle.std.proofs.lemmas.Bool.{and_from, and_parts, le-leb, leb-true}
use Rattle.byteorder.specs.Endian.{big_bytes}
use Rattle.byteorder.specs.Numbers.{big_number-reads_back}
use Rattle.up_stanza.specs.Signals.{hup}
use Rattle.up_conf.specs.declared.job.JobDef.{JobDef}
use Rattle.up_image.specs.Image.{IsImage, IsVersion, body_of, fits, fits_lists, fits_numbers, fits_number, fits_events, fits_processes, has_image, head_of}
use Rattle.up_image.specs.Reading.{version_at}
use Rattle.up_image.specs.Versions.{version_of, fits_reload}
use Rattle.up_image.specs.declared.version.Version.{Version}
use Rattle.up_image.specs.declared.version.Version.TheVariants.{One, Two}
use Rattle.up_image.specs.declared.limits.TheConstants.{MAX_IMAGE, MAX_JOBS}

-- how long it is
pub image_long : (version : Version) (jobs : ℕ) (bytes body : List ℕ) → bytes ≡ head_of version jobs (length bytes) ++ body → length bytes ≡ 12 + length body
image_long version jobs bytes body is = ap length is ∙ length-append (head_of version jobs (length bytes)) body

pub same_image : (version : Version) (jobs : ℕ) (bytes other body : List ℕ) → bytes ≡ head_of version jobs (length bytes) ++ body → other ≡ head_of version jobs (length other) ++ body → bytes ≡ other
same_image version jobs bytes other body is also =
    let long : length bytes ≡ length other = image_long version jobs bytes body is ∙ sym (image_long version jobs other body also) in
    is ∙ ap (λ n. head_of version jobs n ++ body) long ∙ sym also

-- the version that it says
head_version : (version : Version) (jobs long : ℕ) (body : List ℕ) → version_at (head_of version jobs long ++ body) ≡ Some version
head_version One jobs long body = ap version_of (big_number-reads_back 2 1 (big_bytes 2 jobs ++ big_bytes 4 long ++ body) (omega arith))
head_version Two jobs long body = ap version_of (big_number-reads_back 2 2 (big_bytes 2 jobs ++ big_bytes 4 long ++ body) (omega arith))

pub says_version : (version : Version) (bytes : List ℕ) (jobs : List JobDef) → IsVersion version bytes jobs → version_at bytes ≡ Some version
says_version version bytes jobs image = ap version_at image.written ∙ head_version version (length jobs) (length bytes) (body_of version jobs)

pub same_version : (version second : Version) (bytes : List ℕ) → version_at bytes ≡ Some version → version_at bytes ≡ Some second → version ≡ second
same_version version second bytes one other = cc

-- version 1 says HUP of each job
has_hup : (job : JobDef) → fits One job ≡ true → (job.reload_signal == hup) ≡ true
unfolding fits
has_hup job fit =
    let three = and_parts (fits_numbers One job && fits_lists job && fits_processes job) (fits_events job) fit in
    let two = and_parts (fits_numbers One job && fits_lists job) (fits_processes job) three.0 in
    let one = and_parts (fits_numbers One job) (fits_lists job) two.0 in
    let front = and_parts (fits_number job.limit.count && fits_number job.limit.interval && fits_reload One job.reload_signal) (fits_number job.kill_timeout) one.0 in
    (and_parts (fits_number job.limit.count && fits_number job.limit.interval) (fits_reload One job.reload_signal) front.0).1

pub have_hup : (jobs : List JobDef) → list_all (fits One) jobs ≡ true → list_all (λ (job : JobDef). job.reload_signal == hup) jobs ≡ true
have_hup [] fit = refl
have_hup (job ∷ jobs) fit =
    let parts = and_parts (fits One job) (list_all (fits One) jobs) fit in
    and_from _ _ (has_hup job parts.0) (have_hup jobs parts.1)

-- what it takes to have an image
pub parts_of : (jobs : List JobDef) → has_image jobs ≡ true → (length jobs ≤ MAX_JOBS) × ((list_all (fits Two) jobs ≡ true) × (12 + length (body_of Two jobs) ≤ MAX_IMAGE))
unfolding has_image
parts_of jobs has =
    let long = 12 + length (body_of Two jobs) in
    let parts = and_parts (nat_le (length jobs) MAX_JOBS && list_all (fits Two) jobs) (nat_le long MAX_IMAGE) has in
    let front = and_parts (nat_le (length jobs) MAX_JOBS) (list_all (fits Two) jobs) parts.0 in
    (leb-true (length jobs) MAX_JOBS front.0, (front.1, leb-true long MAX_IMAGE parts.1))

-- a vector whose slice was written whole
pub written : {X : Type 0} (len : ℕ) (new old : List X) → length new ≡ length old → length old ≡ len → take len (new ++ drop (length new) old) ≡ new
written len new old same long =
    let all : drop (length new) old ≡ [] = ap (λ n. drop n old) same ∙ drop-length old in
    let whole : len ≡ length new = sym long ∙ sym same in
    ap (λ xs. take len (new ++ xs)) all ∙ ap (λ n. take n (new ++ [])) whole ∙ take-append_seam new []

-- the length is put into what was written with 0 there
pub written_of : (jobs : List JobDef) (bytes out : List ℕ) → has_image jobs ≡ true → bytes ≡ head_of Two (length jobs) 0 ++ body_of Two jobs
    → out ≡ take 8 bytes ++ (big_bytes 4 (length bytes) ++ drop 12 bytes) → IsImage out jobs
written_of jobs bytes out has is set =
    let parts = parts_of jobs has in
    let body = body_of Two jobs in
    let long : length bytes ≡ 12 + length body = ap length is ∙ length-append (head_of Two (length jobs) 0) body in
    let laid : out ≡ head_of Two (length jobs) (length bytes) ++ body = set ∙ ap (λ bs. take 8 bs ++ (big_bytes 4 (length bytes) ++ drop 12 bs)) is in
    let same : length out ≡ length bytes = omega (arith, ap length laid ∙ length-append (head_of Two (length jobs) (length bytes)) body, long) in
    record {
      written = laid ∙ ap (λ n. head_of Two (length jobs) n ++ body) (sym same);
      small = omega (arith, same, long, parts.1.1);
      few = parts.0;
      counted = parts.1.0;
    }

-- jobs that are few, fit and are small have an image, and no others
pub image_of : (jobs : List JobDef) → has_image jobs ≡ true → (bytes : List ℕ) × IsImage bytes jobs
image_of jobs has =
    let body = body_of Two jobs in
    let long = 12 + length body in
    let parts = parts_of jobs has in
    let bytes = head_of Two (length jobs) long ++ body in
    let counted : length bytes ≡ long = length-append (head_of Two (length jobs) long) body in (
      bytes,
      record {
        written = ap (λ n. head_of Two (length jobs) n ++ body) (sym counted);
        small = omega (arith, counted, parts.1.1);
        few = parts.0;
        counted = parts.1.0;
      },
    )

pub has_it : (jobs : List JobDef) (bytes : List ℕ) → IsImage bytes jobs → has_image jobs ≡ true
unfolding has_image
has_it jobs bytes image =
    let long = image_long Two (length jobs) bytes (body_of Two jobs) image.written in
    rw (le-leb (length jobs) MAX_JOBS image.few, image.counted, le-leb (12 + length (body_of Two jobs)) MAX_IMAGE (omega (arith, long, image.small))) refl
