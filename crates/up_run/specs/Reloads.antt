-- What a run loads when a client asks for its configuration again.
use Rattle.std.specs.Prelude.{◌≡◌, ◌⊎◌, ℕ, List, Err}
use Rattle.up_conf.specs.declared.folder.File.{File}
use Rattle.up_conf.specs.declared.job.JobDef.{JobDef}
use Rattle.up_conf.specs.declared.report.Fault.{Fault}
use Rattle.up_image.specs.declared.image_error.ImageError.{ImageError}
use Rattle.up_image.specs.declared.image_error.ImageError.TheVariants as image_error
use Rattle.up_image.specs.declared.refusal.CompileError.{CompileError}
use Rattle.up_image.specs.declared.refusal.CompileError.TheVariants as compile_error
use Rattle.up_image.specs.Compiling.{Compiles, MayRefuse}
use Rattle.up_image.specs.ImageErrors as image
use Rattle.up_image.specs.Reading.{HasTable, ReadsImage, head_error}
use Rattle.up_image.specs.Refusals as refusal
use Rattle.up_model.specs.declared.loaded.Loaded.{Loaded}
use Rattle.up_model.specs.declared.loaded.Loaded.TheVariants.{Files, Refused}
use Rattle.up_disk.specs.Walk.{IsWalked}

-- the jobs that files define
pub record LoadsJobs (files : List File) (loaded : Loaded) : Type 0 where
  pub jobs : List JobDef
  pub report : List Fault
  pub compiled : Compiles files jobs report
  pub is : loaded ≡ Files jobs

-- why files are refused, unless that is that memory ran out
pub record RefusesFiles (files : List File) (loaded : Loaded) : Type 0 where
  pub error : CompileError
  pub may : MayRefuse files error
  pub known : error ≡ compile_error.Memory → ⊥
  pub is : loaded ≡ Refused (refusal.number_of error)

abbrev pub LoadsFiles : List File → Loaded → Type 0
LoadsFiles files loaded = LoadsJobs files loaded ⊎ RefusesFiles files loaded

-- the jobs of an image
pub record LoadsTable (bytes : List ℕ) (loaded : Loaded) : Type 0 where
  pub jobs : List JobDef
  pub has : HasTable bytes jobs
  pub is : loaded ≡ Files jobs

-- why an image is refused, unless that is that memory ran out
pub record RefusesImage (bytes : List ℕ) (loaded : Loaded) : Type 0 where
  pub error : ImageError
  pub refused : ReadsImage bytes (head_error bytes) (Err error)
  pub known : error ≡ image_error.Memory → ⊥
  pub is : loaded ≡ Refused (image.number_of error)

abbrev pub LoadsImage : List ℕ → Loaded → Type 0
LoadsImage bytes loaded = LoadsTable bytes loaded ⊎ RefusesImage bytes loaded

-- what is loaded of the files that a folder has, or of an image
abbrev pub LoadsPath : Loaded → Type 0
LoadsPath loaded = ((files : List File) × IsWalked files × LoadsFiles files loaded)
    ⊎ ((bytes : List ℕ) × LoadsImage bytes loaded)
