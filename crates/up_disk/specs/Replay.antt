-- What a replay prints, and its status.
use Rattle.std.specs.Prelude.{◌≡◌, ◌⊎◌, ℕ, ◌<◌, nat_le, Bool, true, List, [], ◌++◌, length, Option, Result, Ok, Err, if◌then◌else◌, codes}
use Rattle.std.specs.List.{flat_map}
use Rattle.std.specs.Io.KnownBytes.{Appends}
use Rattle.up_conf.specs.declared.folder.File.{File}
use Rattle.up_conf.specs.declared.report.Fault.{Fault}
use Rattle.up_conf.specs.declared.job.JobDef.{JobDef}
use Rattle.up_conf.specs.Folders.{IsReport}
use Rattle.up_image.specs.declared.refusal.CompileError.{CompileError}
use Rattle.up_model.specs.declared.input.Input.{Input}
use Rattle.up_model.specs.Configuration.{started_with}
use Rattle.up_model.specs.Answers.{answers}
use Rattle.up_model.specs.ExitStatuses.{status_number}
use Rattle.up_model.specs.declared.exit_status.ExitStatus.TheVariants.{Usage, Unusable}
use Rattle.up_print.specs.declared.printed.Printed.{Printed}
use Rattle.up_script.specs.Bundle.{lines_of}
use Rattle.up_print.specs.Folders.{unusable, prints, compile_outcome, faults_output}
use Rattle.up_print.specs.Lines.{bad_statement_line, step_lines}
use Rattle.up_print.specs.Writing.{IsBegun}
use Rattle.up_disk.specs.declared.bundle.BundleRun.{BundleRun}
use Rattle.up_disk.specs.Compiling.{all_compiled, inputs_in, run_of, Folders}

-- what is printed of a folder's faults, and after them of a run of its jobs with a base environment, or of the script's first bad line
abbrev pub play_output : List (List ℕ × List ℕ) → List ℕ → List JobDef → Printed → Result (List Input) ℕ → Printed
play_output base name jobs faults (Ok inputs) = prints
    (faults.text ++ flat_map step_lines (answers (started_with base jobs) [] inputs)) faults.status
play_output base name jobs faults (Err line) = prints (faults.text ++ bad_statement_line name line) Usage

-- what a folder and a script with this name print, with a base environment
abbrev pub replay_output : List (List ℕ × List ℕ) → List ℕ → Result (List JobDef × List Fault) CompileError
    → Result (List Input) ℕ → Printed
replay_output base name (Ok made) read = play_output base name made.0 (faults_output (Ok made)) read
replay_output base name (Err error) read = faults_output (Err error)

-- what is printed for a folder's files, a base environment and a script, with some report of the folder's faults
pub record Plays (files : List File) (base : List (List ℕ × List ℕ)) (name : List ℕ)
    (read : Result (List Input) ℕ) (made : Printed) : Type 0 where
  pub report : List Fault
  pub is : IsReport files report
  pub same : made ≡ replay_output base name (compile_outcome report files) read

-- what is printed of a bundle that is compiled, with a base environment
abbrev pub play_run : List (List ℕ × List ℕ) → List ℕ → BundleRun → Printed
play_run base name run = play_output base name run.table run.faults run.read

-- the same, or what the refusal of a folder prints
abbrev pub output_by : (shown : BundleRun → Printed) → Result BundleRun Printed → Printed
output_by shown (Ok run) = shown run
output_by shown (Err printed) = printed

-- what is printed for the bytes of a bundle with this name, which has 64 MiB at most, with a base environment, and with its folders
-- compiled to these
unfoldable pub bundle_printed : (base : List (List ℕ × List ℕ)) → (name bytes : List ℕ) → Folders (lines_of bytes) → Printed
bundle_printed base name bytes folders =
    if nat_le (length bytes) 67108864 then output_by (play_run base name)
    (run_of folders.first (all_compiled folders.later) (inputs_in (lines_of bytes)))
    else prints (unusable name) Unusable

-- what is printed for a bundle with this name, with a base environment
pub record Prints (base : List (List ℕ × List ℕ)) (name bytes : List ℕ) (made : Printed) : Type 0 where
  pub folders : Folders (lines_of bytes)
  pub same : made ≡ bundle_printed base name bytes folders

-- The status is the one of the bundle that was read, and what is printed for it was written and nothing else.
pub record Replayed (bytes : List ℕ) (status : ℕ) (old new : Option (List ℕ)) : Type 0 where
  pub folders : Folders (lines_of bytes)
  pub ends : status ≡ status_number (bundle_printed [] (codes "-") bytes folders).status
  pub text : Appends old new (bundle_printed [] (codes "-") bytes folders).text

-- What was written is the beginning of what is printed for the bundle.
abbrev pub IsCutOff : List ℕ → Option (List ℕ) → Option (List ℕ) → Type 0
IsCutOff bytes old new = (folders : Folders (lines_of bytes)) × IsBegun old new (bundle_printed [] (codes "-") bytes folders).text

-- A status of 3 has one of these causes: it is the one of the bundle, which is too long or has a folder that is refused; the reader failed, and
-- the line that says that the bundle can't be used was written, or its beginning; or the writer failed.
abbrev pub IsStopped : List ℕ → (unread unwritten : Bool) → Option (List ℕ) → Option (List ℕ) → Type 0
IsStopped bytes unread unwritten old new = Replayed bytes 3 old new
    ⊎ (((unread ≡ true) × IsBegun old new (unusable (codes "-"))) ⊎ ((unwritten ≡ true) × IsCutOff bytes old new))

-- What a replay of these bytes ends with, by whether its reader failed, and its writer.
abbrev pub Replays : List ℕ → ℕ → (unread unwritten : Bool) → Option (List ℕ) → Option (List ℕ) → Type 0
Replays bytes status unread unwritten old new = (status < 3 → Replayed bytes status old new)
    × (status ≡ 3 → IsStopped bytes unread unwritten old new)
