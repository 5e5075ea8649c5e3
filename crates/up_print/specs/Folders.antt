-- What is printed of a folder.
use Rattle.std.specs.Prelude.{◌≡◌, ℕ, nat_le, not, List, [], ◌∷◌, ◌++◌, length, Option, None, Some, Result, Ok, Err, if◌then◌else◌, codes}
use Rattle.std.specs.List.{flat_map}
use Rattle.std.specs.Fmt.{decimal}
use Rattle.up_conf.specs.declared.folder.File.{File}
use Rattle.up_conf.specs.declared.report.Fault.{Fault}
use Rattle.up_conf.specs.declared.job.JobDef.{JobDef}
use Rattle.up_conf.specs.FaultCodes as fault
use Rattle.up_conf.specs.Folders.{jobs_of, IsReport}
use Rattle.up_model.specs.declared.exit_status.ExitStatus.{ExitStatus}
use Rattle.up_model.specs.declared.exit_status.ExitStatus.TheVariants.{Done, Failed, Unusable}
use Rattle.up_image.specs.declared.refusal.CompileError.{CompileError}
use Rattle.up_image.specs.declared.refusal.CompileError.TheVariants.{SameName, TooManyJobs, ImageTooLarge}
use Rattle.up_image.specs.Compiling.{has_twice, read_paths}
use Rattle.up_image.specs.Image.{has_image}
use Rattle.up_image.specs.Refusals as refusal
use Rattle.up_image.specs.declared.image_error.ImageError.{ImageError}
use Rattle.up_image.specs.ImageErrors as image_error
use Rattle.up_print.specs.Advice.{advice_lines}
use Rattle.up_print.specs.Graph.{graph_of}
use Rattle.up_print.specs.declared.printed.Printed.{Printed}

-- the line of a fault
unfoldable pub fault_line : Fault → List ℕ
fault_line found =
    found.path ++ codes ":" ++ decimal found.line ++ codes ": " ++ decimal (fault.number_of found.code)
    ++ codes " " ++ fault.name_of found.code ++ codes "\n"

-- the line of a refused folder
unfoldable pub refusal_line : CompileError → List ℕ
refusal_line error = codes "initd: " ++ decimal (refusal.number_of error) ++ codes " "
    ++ refusal.name_of error ++ codes "\n"

-- the line of an image that is refused, or of a table that has none
unfoldable pub image_refusal_line : ImageError → List ℕ
image_refusal_line error = codes "initd: " ++ decimal (image_error.number_of error) ++ codes " "
    ++ image_error.name_of error ++ codes "\n"

-- the line of what can't be read or written
unfoldable pub unusable : List ℕ → List ℕ
unusable name = codes "initd: cannot use " ++ name ++ codes "\n"

-- bytes that are printed, with a status
abbrev pub prints : List ℕ → ExitStatus → Printed
prints text status = record { text = text; status = status }

-- the status, by the faults of a folder
abbrev pub status_of : List Fault → ExitStatus
status_of [] = Done
status_of (found ∷ report) = Failed

-- the jobs of files with this report of their faults, or why they are refused
unfoldable pub compile_outcome : List Fault → List File → Result (List JobDef × List Fault) CompileError
compile_outcome report files =
    if has_twice (read_paths files) then Err SameName
    else (if not (nat_le (length (jobs_of files)) 1024) then Err TooManyJobs
    else (if has_image (jobs_of files) then Ok (jobs_of files, report)
    else Err ImageTooLarge))

-- how many jobs and faults there are
unfoldable pub count_line : ℕ → ℕ → List ℕ
count_line jobs faults = decimal jobs ++ codes " jobs, " ++ decimal faults ++ codes " faults\n"

-- what a check of a folder prints
abbrev pub check_output : Result (List JobDef × List Fault) CompileError → Printed
check_output (Ok made) = prints (flat_map fault_line made.1 ++ count_line (length made.0) (length made.1))
    (status_of made.1)
check_output (Err error) = prints (refusal_line error) Unusable

-- what is printed of faults: below the line of each what is said of it
abbrev pub Explains : List File → List Fault → List ℕ → Type 0
Explains files [] text = text ≡ []
Explains files (fault ∷ report) text = (said : List ℕ) × (rest : List ℕ)
    × Explains files report rest × (text ≡ fault_line fault ++ advice_lines said files fault ++ rest)

-- what a check prints that explains the faults
abbrev pub ExplainsOutcome : List File → Printed → Result (List JobDef × List Fault) CompileError → Type 0
ExplainsOutcome files printed (Ok made) = (text : List ℕ) × Explains files made.1 text
    × (printed ≡ prints (text ++ count_line (length made.0) (length made.1)) (status_of made.1))
ExplainsOutcome files printed (Err error) = printed ≡ prints (refusal_line error) Unusable

-- the faults of a folder, or why it is refused
abbrev pub faults_output : Result (List JobDef × List Fault) CompileError → Printed
faults_output (Ok made) = prints (flat_map fault_line made.1) (status_of made.1)
faults_output (Err error) = prints (refusal_line error) Unusable

-- the graph of a folder's jobs
abbrev pub graph_output : Result (List JobDef × List Fault) CompileError → Printed
graph_output (Ok made) = prints (graph_of made.0) (status_of made.1)
graph_output (Err error) = prints (refusal_line error) Unusable

-- the jobs and some report of a folder's files, or why they are refused
pub record IsCompiled (files : List File) (made : Result
    (List JobDef × List Fault) CompileError) : Type 0 where
  pub report : List Fault
  pub is : IsReport files report
  pub same : made ≡ compile_outcome report files

-- the table of the jobs, unless the files are refused
abbrev pub table_of : Result (List JobDef × List Fault) CompileError → Option (List JobDef)
table_of (Ok made) = Some made.0
table_of (Err error) = None

-- what is printed for a check of a folder's files, with some report of its faults
pub record Checks (files : List File) (made : Printed) : Type 0 where
  pub report : List Fault
  pub is : IsReport files report
  pub same : made ≡ check_output (compile_outcome report files)

-- what is printed of a folder's files before its jobs run, with some report of its faults
pub record PrintsFaults (files : List File) (made : Printed) : Type 0 where
  pub report : List Fault
  pub is : IsReport files report
  pub same : made ≡ faults_output (compile_outcome report files)

-- the graph that is printed of a folder's files
pub record Graphs (files : List File) (made : Printed) : Type 0 where
  pub report : List Fault
  pub is : IsReport files report
  pub same : made ≡ graph_output (compile_outcome report files)

-- what is printed for a check that explains the faults of a folder's files
pub record ChecksExplained (files : List File) (made : Printed) : Type 0 where
  pub report : List Fault
  pub is : IsReport files report
  pub same : ExplainsOutcome files made (compile_outcome report files)

-- the table of a folder's jobs, unless the folder is refused
pub record IsTable (files : List File) (table : Option (List JobDef)) : Type 0 where
  pub report : List Fault
  pub is : IsReport files report
  pub same : table ≡ table_of (compile_outcome report files)
