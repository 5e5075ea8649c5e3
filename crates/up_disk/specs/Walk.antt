-- What is read of a folder on the disk.
use Rattle.std.specs.Prelude.{◌≡◌, ℕ, ◌+◌, ◌≤◌, Bool, true, nat_eq, ◌||◌, if◌then◌else◌, List, [], ◌∷◌, ◌++◌, length, codes, string_bytes, is_some, All, ◌⊎◌}
use Rattle.std.specs.List.{ends_with}
use Rattle.up_conf.specs.declared.folder.File.{File}
use Rattle.up_conf.specs.Folders.{job_name, overridden_name}
use Rattle.up_disk.specs.declared.walk.Level.{Level}
use Rattle.up_disk.specs.declared.walk.WalkError.{WalkError}
use Rattle.up_disk.specs.declared.walk.WalkError.TheVariants.{Unusable, Memory}

-- whether a path stands for a job or an override
abbrev pub is_source : List ℕ → Bool
is_source path = is_some (job_name path) || is_some (overridden_name path)

-- the path of what lies in a folder
abbrev pub path_in : List ℕ → List ℕ → List ℕ
path_in dir path = (if ends_with nat_eq dir (codes "/") then dir else dir ++ codes "/") ++ path

-- a job file or an override, of no more bytes than show that it is too long
pub record IsSource (file : File) : Type 0 where
  pub source : is_source file.path ≡ true
  pub bounded : length file.bytes ≤ 1048577

-- the same files, or one more, which has this path
abbrev pub MayAdd : List ℕ → List File → List File → Type 0
MayAdd path old new = (new ≡ old) ⊎ ((file : File) × IsSource file × (file.path ≡ path)
    × (new ≡ old ++ file ∷ []))

-- a folder that is still to be listed: its path, with a slash after it, and how deep it lies
abbrev pub level_of : Level → List ℕ × ℕ
level_of level = (string_bytes level.path, level.depth)

-- the folder with this path, in one that lies so deep
abbrev pub below : List ℕ → ℕ → List ℕ × ℕ
below path depth = (path ++ codes "/", depth + 1)

-- what has this path, in a folder that lies so deep, is taken: as a folder that is to be listed too, or else as a file if its path
-- stands for one
abbrev pub TakesPath : List ℕ → ℕ → (files new_files : List File) → (levels new_levels : List (List ℕ × ℕ))
    → Type 0
TakesPath path depth files new_files levels new_levels =
    ((new_files ≡ files) × (new_levels ≡ levels ++ below path depth ∷ []))
    ⊎ ((new_levels ≡ levels) × (length new_files ≡ length files + (if is_source path then 1 else 0)))

-- the files among so many entries
pub record Keeps (files : List File) (entries : ℕ) : Type 0 where
  pub few : length files ≤ entries
  pub within : entries ≤ 65536
  pub sources : All IsSource files

-- the files of a folder on the disk
pub record IsWalked (files : List File) : Type 0 where
  pub few : length files ≤ 65536
  pub sources : All IsSource files

-- an error that names this path, if it isn't that memory ran out
abbrev pub Names : List ℕ → WalkError → Type 0
Names path (Unusable named) = named ≡ path
Names path Memory = Unit {0}

-- the same, where what has this path lies too deep to be listed
abbrev pub NamesDeep : List ℕ → ℕ → WalkError → Type 0
NamesDeep path depth (Unusable named) = (named ≡ path) × (64 ≤ depth)
NamesDeep path depth Memory = Unit {0}

-- an error that names this whole path, which ends as a job's or an override's does, if it isn't that memory ran out
abbrev pub NamesSource : List ℕ → List ℕ → WalkError → Type 0
NamesSource whole path (Unusable named) = (named ≡ whole) × (is_source path ≡ true)
NamesSource whole path Memory = Unit {0}

-- why a folder isn't read: it can't be used, or one of its files can't, or memory is refused
abbrev pub MayFail : List ℕ → WalkError → Type 0
MayFail dir (Unusable named) = (named ≡ dir) ⊎
    ((path : List ℕ) × (named ≡ path_in dir path) × (is_source path ≡ true))
MayFail dir Memory = Unit {0}
