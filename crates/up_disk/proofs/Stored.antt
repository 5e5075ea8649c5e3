-- What an image that was read says, and which files define its jobs.
use Rattle.std.proofs.Common.{◌≡◌, ℕ, Bool, List, length, Result, Err, Decides, refl, sym, ◌∙◌, subst}
use Rattle.std.specs.Prelude.{Option, None, Some, Ok, IfOk}
use Rattle.std.proofs.lemmas.Bool.{false≢true, le-leb}
use Rattle.up_conf.specs.declared.folder.File.{File}
use Rattle.up_conf.specs.declared.job.JobDef.{JobDef}
use Rattle.up_conf.specs.declared.report.Fault.{Fault}
use Rattle.up_conf.specs.Folders.{jobs_of}
use Rattle.up_disk.specs.Disk.{Defines, DefinesImage}
use Rattle.up_image.specs.declared.image_error.ImageError.{ImageError}
use Rattle.up_image.specs.declared.refusal.CompileError.{CompileError}
use Rattle.up_image.specs.declared.refusal.CompileError.TheVariants.{TooManyJobs, SameName, ImageTooLarge, Memory}
use Rattle.up_image.specs.declared.version.Version.TheVariants.{Two}
use Rattle.up_image.specs.Compiling.{Compiles, MayRefuse}
use Rattle.up_image.specs.Image.{IsImage, body_of}
use Rattle.up_image.specs.Reading.{HasTable, ReadsImage}
use Rattle.up_image.proofs.Images as images
use Rattle.up_image.proofs.Tables.{same_jobs}

pub read_is : (bytes : List ℕ) (wrong : Option ImageError) (jobs : List JobDef) → ReadsImage bytes wrong (Ok jobs) → HasTable bytes jobs
read_is bytes None jobs read = read
read_is bytes (Some error) jobs read = absurd (cc)

-- what a call returns, by more that is known of it
pub given : {T E : Type 0} {P Q : T → Type 0} (r : Result T E) → ((v : T) → P v → Q v) → IfOk r P → IfOk r Q
given (Ok v) f p = f v p
given (Err e) f p = p

-- files that are refused define no image
pub refused : (files : List File) (error : CompileError) (image : List ℕ) → MayRefuse files error → (error ≡ Memory → ⊥) → DefinesImage files image → ⊥
refused files SameName image may known define = false≢true (sym define.0 ∙ may)
refused files TooManyJobs image may known define = false≢true (sym may.1 ∙ le-leb _ 1024 define.1.few)
refused files ImageTooLarge image may known define = false≢true (sym may.1.1 ∙ images.has_it (jobs_of files) image define.1)
refused files Memory image may known define = known refl

-- files that are compiled define the image of their table alone
pub same_image : (files : List File) (jobs : List JobDef) (report : List Fault) (bytes image : List ℕ) → Compiles files jobs report → IsImage bytes jobs
    → (is : Bool) → Decides is (bytes ≡ image) → Decides is (DefinesImage files image)
same_image files jobs report bytes image compiled written is decided = (
  λ yes. (compiled.apart, subst (λ all. IsImage all (jobs_of files)) (decided.0 yes) (subst (λ of. IsImage bytes of) compiled.jobs written)),
  λ define.
      let own : IsImage bytes (jobs_of files) = subst (λ of. IsImage bytes of) compiled.jobs written in
      decided.1 (images.same_image Two (length (jobs_of files)) bytes image (body_of Two (jobs_of files)) own.written define.1.written),
)

-- the table of an image is one alone
pub same_table : (files : List File) (jobs : List JobDef) (image : List ℕ) → IsImage image jobs
    → (is : Bool) → Decides is (DefinesImage files image) → Decides is (Defines files jobs)
same_table files jobs image written is decided = (
  λ yes. let define = decided.0 yes in (define.0, same_jobs Two Two image (jobs_of files) jobs define.1 written),
  λ define. decided.1 (define.0, subst (λ of. IsImage image of) (sym define.1) written),
)
