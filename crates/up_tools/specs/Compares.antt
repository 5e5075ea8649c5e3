-- What is printed of what a reload from one folder or image to a folder changes.
use Rattle.std.specs.Prelude.{◌≡◌, ◌⊎◌, List, ◌++◌, Option, Some, codes}
use Rattle.up_value.specs.Values.{Bytes}
use Rattle.up_tools.specs.Changes.{Compares}
use Rattle.up_conf.specs.declared.folder.File.{File}
use Rattle.up_conf.specs.declared.job.JobDef.{JobDef}
use Rattle.up_disk.specs.Disk.{CannotWalk, IsRefusedImage, IsUnusable}
use Rattle.up_disk.specs.Walk.{IsWalked}
use Rattle.up_image.specs.Reading.{HasTable}
use Rattle.up_model.specs.declared.exit_status.ExitStatus.{ExitStatus}
use Rattle.up_model.specs.declared.exit_status.ExitStatus.TheVariants.{Done}
use Rattle.up_print.specs.declared.printed.Printed.{Printed}
use Rattle.up_print.specs.Folders.{Checks, IsTable, prints}
use Rattle.up_tools.specs.declared.compare.Loaded.{Loaded}
use Rattle.up_tools.specs.declared.compare.Loaded.TheVariants.{Jobs, Refused}
use Rattle.up_tools.specs.Lints.{status_by}

-- the jobs of a folder, if a check of it finds no fault, and else what the check prints
abbrev pub loaded_by : ExitStatus → (checked : Printed) → Option (List JobDef) → Loaded
loaded_by Done checked (Some jobs) = Jobs jobs
loaded_by status checked table = Refused checked

-- the same of a folder's files
pub record Loads (files : List File) (loaded : Loaded) : Type 0 where
  pub checked : Printed
  pub checks : Checks files checked
  pub table : Option (List JobDef)
  pub compiled : IsTable files table
  pub same : loaded ≡ loaded_by checked.status checked table

-- the same of the files that a folder has
pub record LoadsFiles (loaded : Loaded) : Type 0 where
  pub files : List File
  pub walked : IsWalked files
  pub loads : Loads files loaded

-- what is printed in the place of jobs
pub record IsRefused (Says : Printed → Type 0) (loaded : Loaded) : Type 0 where
  pub made : Printed
  pub says : Says made
  pub is : loaded ≡ Refused made

-- what a check of the other folder prints, below a line that names it
unfoldable pub named : (path : Bytes) → Printed → Printed
named path checked = prints (codes "initd: in " ++ path ++ codes ":\n" ++ checked.text) checked.status

abbrev pub named_in : (path : Bytes) → Loaded → Loaded
named_in path (Jobs jobs) = Jobs jobs
named_in path (Refused checked) = Refused (named path checked)

pub record LoadsNamed (path : Bytes) (loaded : Loaded) : Type 0 where
  pub plain : Loaded
  pub loads : LoadsFiles plain
  pub is : loaded ≡ named_in path plain

-- the jobs of the folder that is compared
abbrev pub LoadsDir : (dir : Bytes) → Loaded → Type 0
LoadsDir dir loaded = LoadsFiles loaded ⊎ IsRefused (CannotWalk dir) loaded

-- those of the other folder
abbrev pub LoadsOtherDir : (dir : Bytes) → Loaded → Type 0
LoadsOtherDir dir loaded = LoadsNamed dir loaded ⊎ IsRefused (CannotWalk dir) loaded

-- the jobs that the bytes of an image have, or why they are refused
abbrev pub LoadsBytes : (bytes : Bytes) → Loaded → Type 0
LoadsBytes bytes loaded =
    ((jobs : List JobDef) × HasTable bytes jobs × (loaded ≡ Jobs jobs)) ⊎ IsRefused (IsRefusedImage bytes) loaded

-- the same for an image, or that its file can't be used
abbrev pub LoadsImage : (image : Bytes) → Loaded → Type 0
LoadsImage image loaded = ((bytes : Bytes) × LoadsBytes bytes loaded) ⊎ IsRefused (IsUnusable image) loaded

-- the jobs of the other folder, or of an image
abbrev pub LoadsOther : (other : Bytes) → Loaded → Type 0
LoadsOther other loaded = LoadsOtherDir other loaded ⊎ LoadsImage other loaded

-- what changes from old jobs to new ones; the status tells whether anything does
abbrev pub ComparesJobs : (old new : List JobDef) → Printed → Type 0
ComparesJobs old new made = Compares old new made.text × (made.status ≡ status_by made.text)

-- the same, or what is printed in the place of the old jobs
abbrev pub ComparesWith : (new : List JobDef) → (old : Loaded) → Printed → Type 0
ComparesWith new (Jobs old) made = ComparesJobs old new made
ComparesWith new (Refused printed) made = made ≡ printed

-- the same, where the old jobs are those of a folder or an image
pub record ComparesOther (new : List JobDef) (other : Bytes) (made : Printed) : Type 0 where
  pub old : Loaded
  pub loads : LoadsOther other old
  pub compares : ComparesWith new old made

-- the same, or what is printed in the place of the new jobs
abbrev pub ComparesFrom : (new : Loaded) → (other : Bytes) → Printed → Type 0
ComparesFrom (Jobs new) other made = ComparesOther new other made
ComparesFrom (Refused printed) other made = made ≡ printed

-- what a reload from a folder or an image to a folder changes, or why that can't be told
pub record ComparesDir (dir other : Bytes) (made : Printed) : Type 0 where
  pub new : Loaded
  pub loads : LoadsDir dir new
  pub compares : ComparesFrom new other made
