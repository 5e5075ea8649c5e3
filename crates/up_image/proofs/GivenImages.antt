-- The image of jobs that files can give is read back.
use Rattle.std.proofs.Common.{◌≡◌, ◌⊎◌, inl, inr, ℕ, ◌+◌, ◌≤◌, Bool, true, false, cond, not, List, ◌++◌, length, take, drop, None, Some, Result, Ok, Err, refl, sym, ap, ◌∙◌, subst, arith, codes, take_all, le-ltb, is_none}
use Rattle.std.proofs.lemmas.Slice.Eq.{bytes_eq-Decides}
use Rattle.byteorder.specs.Endian.{big_number}
use Rattle.byteorder.specs.Numbers.{big_number-reads_back}
use Rattle.up_conf.specs.declared.job.JobDef.{JobDef}
use Rattle.up_image.specs.declared.image_error.ImageError.{ImageError}
use Rattle.up_image.specs.declared.image_error.ImageError.TheVariants.{ImageTooLarge, BadMagic, BadVersion, Truncated, Trailing, BadTable, Memory}
use Rattle.up_image.specs.Definable.{are_definable}
use Rattle.up_image.specs.Image.{IsImage, body_of, head_of}
use Rattle.up_image.specs.Reading.{ReadsImage, claimed_length, head_error, version_at}
use Rattle.up_image.specs.declared.version.Version.TheVariants.{Two}
use Rattle.up_image.specs.declared.limits.TheConstants.{MAX_IMAGE}
use Rattle.up_image.proofs.Images.{has_it, image_long, says_version}
use Rattle.up_image.proofs.Tables.{same_jobs}

-- the parts of a head

head_mark : (jobs long : ℕ) (body : List ℕ) → take 4 (head_of Two jobs long ++ body) ≡ codes "UPTB"
head_mark jobs long body = refl

head_long : (jobs long : ℕ) (body : List ℕ) → long ≤ MAX_IMAGE → big_number 4 (drop 8 (head_of Two jobs long ++ body)) ≡ long
head_long jobs long body small = big_number-reads_back 4 long body (omega (arith, small))

none_by : (mark short other over under : Bool) → mark ≡ true → short ≡ false → other ≡ false → over ≡ false → under ≡ false
    → cond (not mark) (Some BadMagic) (cond short (Some Truncated) (cond other (Some BadVersion) (cond over (Some Truncated) (cond under (Some Trailing) None)))) ≡ None
none_by mark short other over under a b c d e = rw (a, b, c, d, e) refl

-- nothing is wrong with the head of an image
head_right : (bytes : List ℕ) (jobs : List JobDef) → IsImage bytes jobs → head_error bytes ≡ None
unfolding head_error
head_right bytes jobs image =
    let long : length bytes ≡ 12 + length (body_of Two jobs) = image_long Two (length jobs) bytes (body_of Two jobs) image.written in
    let mark : take 4 bytes ≡ take (length bytes) (codes "UPTB") =
    ap (take 4) image.written ∙ head_mark (length jobs) (length bytes) (body_of Two jobs) ∙ sym (take_all (length bytes) (codes "UPTB") (omega (arith, long))) in
    let version : is_none (version_at bytes) ≡ false = ap is_none (says_version Two bytes jobs image) in
    let claimed : claimed_length bytes ≡ length bytes = ap claimed_length image.written ∙ head_long (length jobs) (length bytes) (body_of Two jobs) image.small in
    none_by _ _ _ _ _ ((bytes_eq-Decides (take 4 bytes) (take (length bytes) (codes "UPTB"))).1 mark) (le-ltb (length bytes) 12 (omega (arith, long))) version
    (le-ltb (length bytes) (claimed_length bytes) (omega (arith, claimed))) (le-ltb (claimed_length bytes) (length bytes) (omega (arith, claimed)))

pub read_back : (jobs : List JobDef) (bytes : List ℕ) (result : Result (List JobDef) ImageError) → are_definable jobs ≡ true → IsImage bytes jobs → ReadsImage bytes (head_error bytes) result → (result ≡ Ok jobs) ⊎ (result ≡ Err Memory)
read_back jobs bytes result given image reads = by_result result (subst (λ error. ReadsImage bytes error result) (head_right bytes jobs image) reads)
  where
    by_error : (error : ImageError) → ReadsImage bytes None (Err error) → (◌≡◌ {A = Result (List JobDef) ImageError} (Err error) (Ok jobs)) ⊎ (◌≡◌ {A = Result (List JobDef) ImageError} (Err error) (Err Memory))
    by_error BadTable none = absurd (none jobs (Two, record { image = image; given = given; imaged = has_it jobs bytes image }))
    by_error Memory lacks = inr refl
    by_error BadMagic never = absurd never
    by_error BadVersion never = absurd never
    by_error Truncated never = absurd never
    by_error Trailing never = absurd never
    by_error ImageTooLarge never = absurd never

    by_result : (result : Result (List JobDef) ImageError) → ReadsImage bytes None result → (result ≡ Ok jobs) ⊎ (result ≡ Err Memory)
    by_result (Ok others) (version, found) = inl (ap Ok (same_jobs version Two bytes others jobs found.image image))
    by_result (Err error) refused = by_error error refused
