-- When bytes are read as a table, and why they are refused.
use Rattle.std.specs.Prelude.{◌≡◌, ℕ, true, nat_lt, not, if◌then◌else◌, List, take, drop, length, Option, None, Some, is_none, Result, Ok, Err, codes}
use Rattle.std.specs.Str.{bytes_eq}
use Rattle.byteorder.specs.Endian.{big_number}
use Rattle.up_conf.specs.declared.job.JobDef.{JobDef}
use Rattle.up_image.specs.declared.image_error.ImageError.{ImageError}
use Rattle.up_image.specs.declared.image_error.ImageError.TheVariants.{ImageTooLarge, BadMagic, BadVersion, Truncated, Trailing, BadTable, Memory}
use Rattle.up_image.specs.Definable.{are_definable}
use Rattle.up_image.specs.Image.{IsVersion, has_image}
use Rattle.up_image.specs.Versions.{version_of}
use Rattle.up_image.specs.declared.version.Version.{Version}

-- the version that an image says, if it is one
abbrev pub version_at : List ℕ → Option Version
version_at bytes = version_of (big_number 2 (drop 4 bytes))

-- how long an image says that it is
abbrev pub claimed_length : List ℕ → ℕ
claimed_length bytes = big_number 4 (drop 8 bytes)

-- what is wrong with the head of an image: its mark, as far as there are bytes; its version; or its length
unfoldable pub head_error : List ℕ → Option ImageError
head_error bytes =
    if not (bytes_eq (take 4 bytes) (take (length bytes) (codes "UPTB"))) then Some BadMagic
    else (if nat_lt (length bytes) 12 then Some Truncated
    else (if is_none (version_at bytes) then Some BadVersion
    else (if nat_lt (length bytes) (claimed_length bytes) then Some Truncated
    else (if nat_lt (claimed_length bytes) (length bytes) then Some Trailing
    else None))))

-- bytes are, in a version, the image of jobs that files can give, and that have an image to be written
pub record IsStored (version : Version) (bytes : List ℕ) (jobs : List JobDef) : Type 0 where
  pub image : IsVersion version bytes jobs
  pub given : are_definable jobs ≡ true
  pub imaged : has_image jobs ≡ true

abbrev pub HasTable : List ℕ → List JobDef → Type 0
HasTable bytes jobs = (version : Version) × IsStored version bytes jobs

-- bytes are the image of no such jobs, in any version
abbrev pub HasNoTable : List ℕ → Type 0
HasNoTable bytes = (jobs : List JobDef) → HasTable bytes jobs → ⊥

-- why bytes with a right head are refused
abbrev pub Refuses : List ℕ → ImageError → Type 0
Refuses bytes BadTable = HasNoTable bytes
Refuses bytes Memory = Unit {0}
Refuses bytes BadMagic = ⊥
Refuses bytes BadVersion = ⊥
Refuses bytes Truncated = ⊥
Refuses bytes Trailing = ⊥
Refuses bytes ImageTooLarge = ⊥

-- what reading bytes may answer, by what is wrong with their head
abbrev pub ReadsImage : List ℕ → Option ImageError → Result (List JobDef) ImageError → Type 0
ReadsImage bytes (Some error) result = result ≡ Err error
ReadsImage bytes None (Ok jobs) = HasTable bytes jobs
ReadsImage bytes None (Err error) = Refuses bytes error
