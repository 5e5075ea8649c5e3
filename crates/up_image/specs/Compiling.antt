-- What a folder of job files is compiled to.
use Rattle.std.specs.Prelude.{◌≡◌, ℕ, Bool, true, false, nat_le, ◌||◌, List, [], ◌∷◌, length, map, filter}
use Rattle.std.specs.List.{list_any}
use Rattle.std.specs.Str.{bytes_eq}
use Rattle.up_conf.specs.declared.folder.File.{File}
use Rattle.up_conf.specs.declared.job.JobDef.{JobDef}
use Rattle.up_conf.specs.declared.report.Fault.{Fault}
use Rattle.up_conf.specs.Folders.{is_read, jobs_of, IsReport}
use Rattle.up_image.specs.declared.refusal.CompileError.{CompileError}
use Rattle.up_image.specs.declared.refusal.CompileError.TheVariants.{TooManyJobs, SameName, ImageTooLarge, Memory}
use Rattle.up_image.specs.Image.{has_image}

-- the paths of a folder that are read
abbrev pub read_paths : List File → List (List ℕ)
read_paths files = filter (is_read files) (map (λ file. file.path) files)

-- whether one of the texts stands twice
abbrev pub has_twice : List (List ℕ) → Bool
has_twice [] = false
has_twice (text ∷ texts) = list_any (bytes_eq text) texts || has_twice texts

-- what a folder is compiled to: the jobs of its readable files, and a report of the faults of the others
pub record Compiles (files : List File) (table : List JobDef) (report : List Fault) : Type 0 where
  pub apart : has_twice (read_paths files) ≡ false
  pub few : nat_le (length (jobs_of files)) 1024 ≡ true
  pub small : has_image (jobs_of files) ≡ true
  pub jobs : table ≡ jobs_of files
  pub faults : IsReport files report

-- why a folder may be refused: the first of these that holds, or at any time for memory
abbrev pub MayRefuse : List File → CompileError → Type 0
MayRefuse files SameName = has_twice (read_paths files) ≡ true
MayRefuse files TooManyJobs = (has_twice (read_paths files) ≡ false)
    × (nat_le (length (jobs_of files)) 1024 ≡ false)
MayRefuse files ImageTooLarge =
    (has_twice (read_paths files) ≡ false) × ((nat_le (length (jobs_of files)) 1024 ≡ true)
    × (has_image (jobs_of files) ≡ false))
MayRefuse files Memory = Unit {0}
