-- A table that is read from an image is the one whose image it is.
use Rattle.std.proofs.Common.{◌≡◌, ℕ, List}
use Rattle.std.specs.Prelude.{Option, None, Some, Ok}
use Rattle.up_conf.specs.declared.job.JobDef.{JobDef}
use Rattle.up_image.specs.declared.image_error.ImageError.{ImageError}
use Rattle.up_image.specs.declared.version.Version.TheVariants.{Two}
use Rattle.up_image.specs.Image.{IsImage}
use Rattle.up_image.specs.Reading.{ReadsImage, head_error}
use Rattle.up_image.proofs.Tables.{same_jobs}

same_by : (bytes : List ℕ) (jobs again : List JobDef) (wrong : Option ImageError) → IsImage bytes jobs
    → ReadsImage bytes wrong (Ok again) → again ≡ jobs
same_by bytes jobs again None image (version, read) = same_jobs version Two bytes again jobs read.image image
same_by bytes jobs again (Some error) image read = absurd (cc)

pub same_table : (bytes : List ℕ) (jobs again : List JobDef) → IsImage bytes jobs
    → ReadsImage bytes (head_error bytes) (Ok again) → again ≡ jobs
same_table bytes jobs again image read = same_by bytes jobs again (head_error bytes) image read
