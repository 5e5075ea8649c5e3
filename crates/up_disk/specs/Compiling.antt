-- What folders are compiled to, one after another.
use Rattle.std.specs.Prelude.{◌≡◌, ℕ, List, [], ◌∷◌, ◌++◌, Option, None, Some, Result, Ok, Err}
use Rattle.up_conf.specs.declared.folder.File.{File}
use Rattle.up_conf.specs.declared.job.JobDef.{JobDef}
use Rattle.up_conf.specs.declared.report.Fault.{Fault}
use Rattle.up_image.specs.declared.refusal.CompileError.{CompileError}
use Rattle.up_model.specs.declared.exit_status.ExitStatus.{ExitStatus}
use Rattle.up_model.specs.declared.exit_status.ExitStatus.TheVariants.{Done, Failed, Usage, Unusable, Memory}
use Rattle.up_print.specs.declared.printed.Printed.{Printed}
use Rattle.up_print.specs.Folders.{faults_output, prints, table_of, IsCompiled}
use Rattle.up_model.specs.declared.input.Input.{Input}
use Rattle.up_script.specs.Bundle.{lines_of, files_of, later_folders, bad_line, script_line, script_text}
use Rattle.up_script.specs.Statements.{script_inputs}
use Rattle.up_disk.specs.declared.bundle.BundleRun.{BundleRun}
use Rattle.up_disk.specs.declared.compiled.Compiled.{Compiled}

-- each of these folders is compiled, with some report of its faults
abbrev pub AreCompiled : List (List File) → List (Result (List JobDef × List Fault) CompileError) → Type 0
AreCompiled [] [] = Unit {0}
AreCompiled [] (made ∷ others) = ⊥
AreCompiled (files ∷ folders) [] = ⊥
AreCompiled (files ∷ folders) (made ∷ others) = IsCompiled files made × AreCompiled folders others

-- a folder's jobs and faults before those of others, unless one of these is refused
abbrev pub with_folder : List JobDef × List Fault → Result (List (List JobDef) × List Fault) CompileError
    → Result (List (List JobDef) × List Fault) CompileError
with_folder made (Ok others) = Ok (made.0 ∷ others.0, made.1 ++ others.1)
with_folder made (Err error) = Err error

-- the jobs of each folder and the faults of all, in order; or why the first that is refused is
abbrev pub all_compiled : List (Result (List JobDef × List Fault) CompileError) → Result (List (List JobDef) × List Fault) CompileError
all_compiled [] = Ok ([], [])
all_compiled (Ok made ∷ others) = with_folder made (all_compiled others)
all_compiled (Err error ∷ others) = Err error

-- the status with faults of more folders
abbrev pub status_with : ExitStatus → ExitStatus → ExitStatus
status_with Done more = more
status_with Failed more = Failed
status_with Usage more = Usage
status_with Unusable more = Unusable
status_with Memory more = Memory

-- what the faults of folders print, and after it what those of more print
abbrev pub joined : Printed → Printed → Printed
joined first more = prints (first.text ++ more.text) (status_with first.status more.status)

-- what is printed of a folder's faults, and the table of its jobs, unless the folder is refused
pub record IsOutcome (files : List File) (printed : Printed) (table : Option (List JobDef)) : Type 0 where
  pub made : Result (List JobDef × List Fault) CompileError
  pub is : IsCompiled files made
  pub same : printed ≡ faults_output made
  pub has : table ≡ table_of made

-- one folder more was compiled, or is refused
abbrev pub Adds : Compiled → List File → Result Compiled Printed → Type 0
Adds before files (Ok more) = (made : List JobDef × List Fault) × IsCompiled files (Ok made)
    × (more.faults ≡ joined before.faults (faults_output (Ok made))) × (more.tables.items ≡ before.tables.items ++ made.0 ∷ [])
Adds before files (Err printed) = (error : CompileError) × IsCompiled files (Err error) × (printed ≡ faults_output (Err error))

-- folders are compiled: what all their faults print, and their tables
pub record HasTables (folders : List (List File)) (found : Compiled) : Type 0 where
  pub made : List (Result (List JobDef × List Fault) CompileError)
  pub are : AreCompiled folders made
  pub faults : List Fault
  pub all : all_compiled made ≡ Ok (found.tables.items, faults)
  pub same : found.faults ≡ faults_output (Ok ([], faults))

-- one of the folders is refused, and this is what the first that is prints
pub record IsRefused (folders : List (List File)) (printed : Printed) : Type 0 where
  pub made : List (Result (List JobDef × List Fault) CompileError)
  pub are : AreCompiled folders made
  pub error : CompileError
  pub all : all_compiled made ≡ Err error
  pub same : printed ≡ faults_output (Err error)

abbrev pub ComesOf : List (List File) → Result Compiled Printed → Type 0
ComesOf folders (Ok found) = HasTables folders found
ComesOf folders (Err printed) = IsRefused folders printed

-- the inputs of a bundle, or the number of its first bad line
abbrev pub unless_bad : Option ℕ → Result (List Input) ℕ → Result (List Input) ℕ
unless_bad None read = read
unless_bad (Some line) read = Err line

-- the inputs of a bundle by its lines, if its later folders have these tables
unfoldable pub inputs_in : List (List ℕ) → List (List JobDef) → Result (List Input) ℕ
inputs_in lines tables = unless_bad (bad_line 1 lines) (script_inputs tables (script_line 1 lines) (script_text lines))

-- what is to be run of folders that are compiled to this, the first and the later ones, with the inputs of a script by the tables of the
-- later ones; or what the first refusal prints
abbrev pub run_of : Result (List JobDef × List Fault) CompileError → Result (List (List JobDef) × List Fault) CompileError
    → (List (List JobDef) → Result (List Input) ℕ) → Result BundleRun Printed
run_of (Err error) later read = Err (faults_output (Err error))
run_of (Ok first) (Err error) read = Err (faults_output (Err error))
run_of (Ok first) (Ok later) read = Ok (record {
  faults = faults_output (Ok (first.0, first.1 ++ later.1));
  table = first.0;
  read = read later.0;
})

-- the same once the first folder has these faults and jobs
abbrev pub run_after : Printed → List JobDef → Result (List (List JobDef) × List Fault) CompileError
    → (List (List JobDef) → Result (List Input) ℕ) → Result BundleRun Printed
run_after faults jobs (Err error) read = Err (faults_output (Err error))
run_after faults jobs (Ok later) read = Ok (record {
  faults = joined faults (faults_output (Ok ([], later.1)));
  table = jobs;
  read = read later.0;
})

pub record CompilesLater (folders : List (List File)) (faults : Printed) (jobs : List JobDef)
    (read : List (List JobDef) → Result (List Input) ℕ) (made : Result BundleRun Printed) : Type 0 where
  pub later : List (Result (List JobDef × List Fault) CompileError)
  pub are : AreCompiled folders later
  pub same : made ≡ run_after faults jobs (all_compiled later) read

-- folders are compiled, with some report of each one's faults
pub record CompilesFolders (files : List File) (folders : List (List File)) (read : List (List JobDef) → Result (List Input) ℕ)
    (made : Result BundleRun Printed) : Type 0 where
  pub first : Result (List JobDef × List Fault) CompileError
  pub is : IsCompiled files first
  pub later : List (Result (List JobDef × List Fault) CompileError)
  pub are : AreCompiled folders later
  pub same : made ≡ run_of first (all_compiled later) read

-- the folders of a bundle's lines, compiled with some report of the faults of each
pub record Folders (lines : List (List ℕ)) : Type 0 where
  pub first : Result (List JobDef × List Fault) CompileError
  pub is : IsCompiled (files_of lines) first
  pub later : List (Result (List JobDef × List Fault) CompileError)
  pub are : AreCompiled (later_folders lines) later

-- the bytes of a bundle are compiled
pub record Compiles (bytes : List ℕ) (made : Result BundleRun Printed) : Type 0 where
  pub folders : Folders (lines_of bytes)
  pub same : made ≡ run_of folders.first (all_compiled folders.later) (inputs_in (lines_of bytes))
