-- What a lint of a folder prints.
use Rattle.std.specs.Prelude.{◌≡◌, ◌⊎◌, List, [], ◌∷◌, ◌++◌, Option, None, Some}
use Rattle.up_value.specs.Values.{Bytes}
use Rattle.up_conf.specs.declared.folder.File.{File}
use Rattle.up_conf.specs.declared.job.JobDef.{JobDef}
use Rattle.up_disk.specs.Disk.{CannotWalk}
use Rattle.up_disk.specs.Walk.{IsWalked}
use Rattle.up_lint.specs.declared.warning.Kind.{Kind}
use Rattle.up_lint.specs.Lint.{lint_of}
use Rattle.up_model.specs.declared.exit_status.ExitStatus.{ExitStatus}
use Rattle.up_model.specs.declared.exit_status.ExitStatus.TheVariants.{Done, Failed}
use Rattle.up_print.specs.declared.printed.Printed.{Printed}
use Rattle.up_print.specs.Folders.{IsTable, PrintsFaults, prints}

-- the status, by whether a line is printed
abbrev pub status_by : Bytes → ExitStatus
status_by [] = Done
status_by (byte ∷ text) = Failed

-- the lines of faults, and after them those of the warnings
abbrev pub with_warnings : Bytes → List File → List JobDef → List Kind → List Bytes → Printed
with_warnings faults files jobs left_out outside =
    let text = faults ++ lint_of files jobs left_out outside in prints text (status_by text)

-- what is printed of a folder's jobs, or of a folder that is refused and has none
abbrev pub linted : (faults : Printed) → List File → Option (List JobDef) → List Kind → List Bytes → Printed
linted faults files None left_out outside = faults
linted faults files (Some jobs) left_out outside = with_warnings faults.text files jobs left_out outside

-- what a lint of a folder's files prints, but of kinds that are left out, if these events come from outside
pub record Lints (files : List File) (left_out : List Kind) (outside : List Bytes) (made : Printed) : Type 0 where
  pub faults : Printed
  pub found : PrintsFaults files faults
  pub table : Option (List JobDef)
  pub compiled : IsTable files table
  pub same : made ≡ linted faults files table left_out outside

-- the same of the files that a folder has
pub record LintsFiles (left_out : List Kind) (outside : List Bytes) (made : Printed) : Type 0 where
  pub files : List File
  pub walked : IsWalked files
  pub lints : Lints files left_out outside made

abbrev pub LintsDir : (dir : Bytes) → List Kind → List Bytes → Printed → Type 0
LintsDir dir left_out outside made = LintsFiles left_out outside made ⊎ CannotWalk dir made
