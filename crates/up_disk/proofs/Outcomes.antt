-- A folder's faults and its table, each with a report of its own, are of one outcome.
use Rattle.std.proofs.Common.{◌≡◌, ℕ, Bool, true, false, cond, not, List, None, Some, Result, Ok, Err, refl, sym, ap, ◌∙◌}
use Rattle.std.specs.Prelude.{nat_le, length, IfOk}
use Rattle.std.proofs.lemmas.Option.{none-some, same_Some}
use Rattle.up_conf.specs.declared.folder.File.{File}
use Rattle.up_conf.specs.declared.report.Fault.{Fault}
use Rattle.up_conf.specs.declared.job.JobDef.{JobDef}
use Rattle.up_conf.specs.Folders.{jobs_of}
use Rattle.up_image.specs.declared.limits.TheConstants.{MAX_JOBS}
use Rattle.up_image.specs.declared.refusal.CompileError.{CompileError}
use Rattle.up_image.specs.declared.refusal.CompileError.TheVariants.{SameName, TooManyJobs, ImageTooLarge}
use Rattle.up_image.specs.Compiling.{has_twice, read_paths}
use Rattle.up_image.specs.Image.{has_image}
use Rattle.up_model.specs.declared.input.Input.{Input}
use Rattle.up_print.specs.declared.printed.Printed.{Printed}
use Rattle.up_print.specs.Folders.{compile_outcome, faults_output, table_of, IsTable, PrintsFaults}
use Rattle.up_disk.specs.Replay.{play_output, replay_output, Plays}

-- which report there is doesn't change the table
tables : (twice few small : Bool) (jobs : List JobDef) (report other : List Fault)
    → table_of (cond twice (Err SameName) (cond (not few) (Err TooManyJobs) (cond small (Ok (jobs, report)) (Err ImageTooLarge))))
    ≡ table_of (cond twice (Err SameName) (cond (not few) (Err TooManyJobs) (cond small (Ok (jobs, other)) (Err ImageTooLarge))))
tables true few small jobs report other = refl
tables false false small jobs report other = refl
tables false true true jobs report other = refl
tables false true false jobs report other = refl

pub same_table : (files : List File) (report other : List Fault) → table_of (compile_outcome report files) ≡ table_of (compile_outcome other files)
unfolding compile_outcome
same_table files report other = tables (has_twice (read_paths files)) (nat_le (length (jobs_of files)) MAX_JOBS) (has_image (jobs_of files)) (jobs_of files) report other

played : (base : List (List ℕ × List ℕ)) (name : List ℕ) (read : Result (List Input) ℕ) (jobs : List JobDef) (made : Result (List JobDef × List Fault) CompileError)
    → Some jobs ≡ table_of made → play_output base name jobs (faults_output made) read ≡ replay_output base name made read
played base name read jobs (Ok made) has = ap (λ those. play_output base name those (faults_output (Ok made)) read) (same_Some jobs made.0 has)
played base name read jobs (Err error) has = absurd (none-some jobs (sym has))

refused : (base : List (List ℕ × List ℕ)) (name : List ℕ) (read : Result (List Input) ℕ) (made : Result (List JobDef × List Fault) CompileError)
    → None ≡ table_of made → faults_output made ≡ replay_output base name made read
refused base name read (Ok made) has = absurd (none-some made.0 has)
refused base name read (Err error) has = refl

-- what is printed of a folder that has a table
pub plays : {E : Type 0} (files : List File) (base : List (List ℕ × List ℕ)) (name : List ℕ) (read : Result (List Input) ℕ) (faults : Printed) (jobs : List JobDef)
    (made : Result Printed E) → PrintsFaults files faults → IsTable files (Some jobs) → IfOk made (λ it. it ≡ play_output base name jobs faults read)
    → IfOk made (Plays files base name read)
plays files base name read faults jobs (Ok made) told table is = record {
  report = told.report;
  is = told.is;
  same = is ∙ ap (λ those. play_output base name jobs those read) told.same
      ∙ played base name read jobs (compile_outcome told.report files) (table.same ∙ same_table files table.report told.report);
}
plays files base name read faults jobs (Err other) told table is = is

-- what is printed of a folder that is refused
pub plays_none : (files : List File) (base : List (List ℕ × List ℕ)) (name : List ℕ) (read : Result (List Input) ℕ) (faults : Printed)
    → PrintsFaults files faults → IsTable files None → Plays files base name read faults
plays_none files base name read faults told table = record {
  report = told.report;
  is = told.is;
  same = told.same ∙ refused base name read (compile_outcome told.report files) (table.same ∙ same_table files table.report told.report);
}
