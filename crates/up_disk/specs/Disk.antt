-- What is printed of a folder on the disk, and the status.
use Rattle.std.specs.Prelude.{◌≡◌, ◌⊎◌, ℕ, ◌≤◌, Bool, true, false, List, [], length, Result, Ok, Err, Option, None, Some}
use Rattle.up_conf.specs.declared.folder.File.{File}
use Rattle.up_conf.specs.declared.job.JobDef.{JobDef}
use Rattle.up_print.specs.declared.printed.Printed.{Printed}
use Rattle.up_conf.specs.Folders.{jobs_of}
use Rattle.up_image.specs.declared.image_error.ImageError.{ImageError}
use Rattle.up_image.specs.declared.image_error.ImageError.TheVariants as image_error
use Rattle.up_image.specs.Compiling.{has_twice, read_paths}
use Rattle.up_image.specs.Image.{IsImage}
use Rattle.up_image.specs.Reading.{HasTable, ReadsImage, head_error}
use Rattle.up_script.specs.Bundle.{files_of, lines_of}
use Rattle.up_print.specs.Folders.{Checks, ChecksExplained, Graphs, image_refusal_line, prints, unusable}
use Rattle.up_disk.specs.Replay.{Plays, Prints}
use Rattle.up_script.specs.Statements.{script_inputs}
use Rattle.up_disk.specs.declared.walk.WalkError.TheVariants.{Unusable}
use Rattle.up_disk.specs.Walk.{IsWalked, MayFail}
use Rattle.up_model.specs.declared.exit_status.ExitStatus.{ExitStatus}
use Rattle.up_model.specs.declared.exit_status.ExitStatus.TheVariants.{Done, Unusable, Memory}

-- what can't be used is said
abbrev pub IsUnusable : List ℕ → Printed → Type 0
IsUnusable path made = made ≡ prints (unusable path) Unusable

-- the folder, or a file of it, can't be used
pub record CannotWalk (dir : List ℕ) (made : Printed) : Type 0 where
  pub path : List ℕ
  pub may : MayFail dir (Unusable path)
  pub says : IsUnusable path made

-- a check of the files that the folder has
pub record ChecksFiles (made : Printed) : Type 0 where
  pub files : List File
  pub walked : IsWalked files
  pub checks : Checks files made

abbrev pub ChecksDir : List ℕ → Printed → Type 0
ChecksDir dir made = ChecksFiles made ⊎ CannotWalk dir made

-- a check of these files that explains their faults
pub record ExplainsFiles (made : Printed) : Type 0 where
  pub files : List File
  pub walked : IsWalked files
  pub checks : ChecksExplained files made

abbrev pub ExplainsDir : List ℕ → Printed → Type 0
ExplainsDir dir made = ExplainsFiles made ⊎ CannotWalk dir made

-- the graph of the files that the folder has
pub record GraphsFiles (made : Printed) : Type 0 where
  pub files : List File
  pub walked : IsWalked files
  pub graphs : Graphs files made

abbrev pub GraphsDir : List ℕ → Printed → Type 0
GraphsDir dir made = GraphsFiles made ⊎ CannotWalk dir made

-- what is printed for a check, by whether it explains the faults
abbrev pub ChecksBy : Bool → List ℕ → Printed → Type 0
ChecksBy true dir made = ExplainsDir dir made
ChecksBy false dir made = ChecksDir dir made

-- the bytes of an image are refused, and what is printed is why: what reading them returns, unless that is that memory ran out
pub record IsRefusedImage (bytes : List ℕ) (made : Printed) : Type 0 where
  pub error : ImageError
  pub refused : ReadsImage bytes (head_error bytes) (Err error)
  pub known : error ≡ image_error.Memory → ⊥
  pub says : made ≡ prints (image_refusal_line error) Unusable

-- the bytes of a file are
abbrev pub IsRefusedFile : Printed → Type 0
IsRefusedFile made = (bytes : List ℕ) × IsRefusedImage bytes made

-- what is printed once a table was stored, or that it can't be
abbrev pub StoresTable : List ℕ → Printed → Printed → Type 0
StoresTable image printed made = (made ≡ printed) ⊎ IsUnusable image made

-- a check of the files that the folder has, whose image was stored, or that it can't be
abbrev pub StoresFiles : List ℕ → Printed → Type 0
StoresFiles image made = ChecksFiles made ⊎ IsUnusable image made

abbrev pub CompilesDir : List ℕ → List ℕ → Printed → Type 0
CompilesDir dir image made = StoresFiles image made ⊎ CannotWalk dir made

-- files define these jobs: they have no path twice that is read, and say these
abbrev pub Defines : List File → List JobDef → Type 0
Defines files jobs = (has_twice (read_paths files) ≡ false) × (jobs_of files ≡ jobs)

-- files define jobs of which this is the image that is written
abbrev pub DefinesImage : List File → List ℕ → Type 0
DefinesImage files image = (has_twice (read_paths files) ≡ false) × IsImage image (jobs_of files)

-- a bundle has 64 MiB at most, and its files define these jobs
abbrev pub DefinesAll : List ℕ → List JobDef → Type 0
DefinesAll bundle jobs = (length bundle ≤ 67108864) × Defines (files_of (lines_of bundle)) jobs

-- the bundle is kept exactly if its files define these jobs
abbrev pub KeepsBundle : List ℕ → List JobDef → Option (List ℕ) → Type 0
KeepsBundle bundle jobs None = DefinesAll bundle jobs → ⊥
KeepsBundle bundle jobs (Some kept) = (kept ≡ bundle) × DefinesAll bundle jobs

-- what is printed for a table: a bundle whose files define it, or that it can't be printed so
abbrev pub ShowsTable : List ℕ → List JobDef → Printed → Type 0
ShowsTable image jobs made = (DefinesAll made.text jobs × (made.status ≡ Done)) ⊎ IsUnusable image made

-- what is printed for the bytes of an image: what is for the table that they have, or that they are refused
abbrev pub ShowsBytes : List ℕ → List ℕ → Printed → Type 0
ShowsBytes bytes image made =
    ((jobs : List JobDef) × HasTable bytes jobs × ShowsTable image jobs made) ⊎ IsRefusedImage bytes made

-- what is printed for an image, or that its file can't be used
abbrev pub ShowsFile : List ℕ → Printed → Type 0
ShowsFile image made = ((bytes : List ℕ) × ShowsBytes bytes image made) ⊎ IsUnusable image made

-- a replay of a script, which has 64 MiB at most, over these files, with a base environment
pub record PlaysOver (files : List File) (base : List (List ℕ × List ℕ)) (script : List ℕ)
    (made : Printed) : Type 0 where
  pub bytes : List ℕ
  pub bounded : length bytes ≤ 67108864
  pub plays : Plays files base script (script_inputs [] 1 bytes) made

-- such a replay over the files that the folder has
pub record PlaysFiles (base : List (List ℕ × List ℕ)) (script : List ℕ) (made : Printed) : Type 0 where
  pub files : List File
  pub walked : IsWalked files
  pub over : PlaysOver files base script made

abbrev pub PlaysDir : List ℕ → List (List ℕ × List ℕ) → List ℕ → Printed → Type 0
PlaysDir dir base script made = PlaysFiles base script made ⊎ (CannotWalk dir made ⊎ IsUnusable script made)

-- a replay of a bundle that has this path, and 64 MiB at most
pub record PlaysBundle (path : List ℕ) (base : List (List ℕ × List ℕ)) (made : Printed) : Type 0 where
  pub bytes : List ℕ
  pub bounded : length bytes ≤ 67108864
  pub prints : Prints base path bytes made

abbrev pub PlaysFile : List ℕ → List (List ℕ × List ℕ) → Printed → Type 0
PlaysFile path base made = PlaysBundle path base made ⊎ IsUnusable path made

-- a replay of a script over files that define these jobs
pub record PlaysJobs (jobs : List JobDef) (base : List (List ℕ × List ℕ)) (script : List ℕ)
    (made : Printed) : Type 0 where
  pub files : List File
  pub define : Defines files jobs
  pub over : PlaysOver files base script made

-- the same for the table of an image, or why there is none
abbrev pub PlaysTable : List ℕ → List (List ℕ × List ℕ) → List ℕ → List JobDef → Printed → Type 0
PlaysTable image base script jobs made = PlaysJobs jobs base script made ⊎ (IsUnusable image made ⊎ IsUnusable script made)

-- the same for the bytes of an image: by the table that they have, or they are refused
abbrev pub PlaysBytes : List ℕ → List ℕ → List (List ℕ × List ℕ) → List ℕ → Printed → Type 0
PlaysBytes bytes image base script made =
    ((jobs : List JobDef) × HasTable bytes jobs × PlaysTable image base script jobs made) ⊎ IsRefusedImage bytes made

-- the same for an image, or that its file can't be used
abbrev pub PlaysStored : List ℕ → List (List ℕ × List ℕ) → List ℕ → Printed → Type 0
PlaysStored image base script made = ((bytes : List ℕ) × PlaysBytes bytes image base script made) ⊎ IsUnusable image made

-- a replay of a script over a folder or an image
abbrev pub PlaysSource : List ℕ → List (List ℕ × List ℕ) → List ℕ → Printed → Type 0
PlaysSource source base script made = PlaysDir source base script made ⊎ PlaysStored source base script made

-- the status once this is printed: its own, unless it can't be written; without memory for it there is nothing to print
abbrev pub HasStatus : {E : Type 0} → Result Printed E → ExitStatus → Type 0
HasStatus (Ok made) status = (status ≡ made.status) ⊎ (status ≡ Unusable)
HasStatus (Err refused) status = status ≡ Memory

-- the status of something that may be printed, unless it can't be written or memory is refused
abbrev pub EndsWith : (Printed → Type 0) → ExitStatus → Type 0
EndsWith Says status = ((made : Printed) × Says made × (status ≡ made.status))
    ⊎ ((status ≡ Unusable) ⊎ (status ≡ Memory))
