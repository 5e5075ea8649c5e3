-- What is printed of a record: the picture of its run, or how long its starts took.
use Rattle.std.specs.Prelude.{◌≡◌, ◌⊎◌, ℕ, ◌≤◌, List, [], Option, None, Some, Result, Ok, Err, length}
use Rattle.up_model.specs.Values.{Bytes}
use Rattle.up_conf.specs.declared.folder.File.{File}
use Rattle.up_conf.specs.declared.job.JobDef.{JobDef}
use Rattle.up_image.specs.Reading.{HasTable}
use Rattle.up_model.specs.declared.input.Input.{Input}
use Rattle.up_model.specs.Configuration.{started_with}
use Rattle.up_model.specs.Answers.{answers}
use Rattle.up_chart.specs.declared.chart.Chart.{Chart}
use Rattle.up_chart.specs.Blame.{blame_of}
use Rattle.up_chart.specs.Charts.{chart_of}
use Rattle.up_chart.specs.Moments.{clock_at, moments_from, no_clock, time_of}
use Rattle.up_chart.specs.Svg.{svg_of}
use Rattle.up_disk.specs.Disk.{CannotWalk, Defines, IsRefusedImage, IsUnusable}
use Rattle.up_disk.specs.Walk.{IsWalked}
use Rattle.up_print.specs.declared.printed.Printed.{Printed}
use Rattle.up_script.specs.Bundle.{files_of, lines_of}
use Rattle.up_print.specs.Folders.{IsTable, PrintsFaults, prints}
use Rattle.up_disk.specs.declared.bundle.BundleRun.{BundleRun}
use Rattle.up_disk.specs.Compiling.{Compiles}
use Rattle.up_disk.specs.Replay.{output_by, play_output, Plays}
use Rattle.up_script.specs.Statements.{script_inputs}
use Rattle.up_tools.specs.declared.view.View.{View}
use Rattle.up_tools.specs.declared.view.View.TheVariants as view

-- the picture of a run of these jobs, whose processes have no variables but their jobs'
abbrev pub run_chart : List JobDef → List Input → Chart
run_chart jobs inputs = chart_of (time_of (clock_at no_clock inputs))
    (moments_from no_clock inputs (answers (started_with [] jobs) [] inputs))

abbrev pub shown : View → Chart → Bytes
shown view.Chart chart = svg_of chart
shown view.Blame chart = blame_of chart.starts

-- what is printed of a run of a table, or of a folder that is refused and has none; the status tells of faulty files
abbrev pub viewed : View → (faults : Printed) → Option (List JobDef) → List Input → Printed
viewed how faults None inputs = faults
viewed how faults (Some jobs) inputs = prints (shown how (run_chart jobs inputs)) faults.status

-- what is printed of a run of a folder's files
pub record ViewsInputs (how : View) (files : List File) (inputs : List Input) (made : Printed) : Type 0 where
  pub faults : Printed
  pub found : PrintsFaults files faults
  pub table : Option (List JobDef)
  pub compiled : IsTable files table
  pub same : made ≡ viewed how faults table inputs

-- what is printed of a record; at a bad step what a replay prints
abbrev pub Views : View → List File → (name : Bytes) → Result (List Input) ℕ → Printed → Type 0
Views how files name (Ok inputs) made = ViewsInputs how files inputs made
Views how files name (Err line) made = Plays files [] name (Err line) made

-- what is printed of a record, which has 64 MiB at most, over these files
pub record ViewsOver (how : View) (files : List File) (name : Bytes) (made : Printed) : Type 0 where
  pub bytes : Bytes
  pub bounded : length bytes ≤ 67108864
  pub views : Views how files name (script_inputs [] 1 bytes) made

-- the same over the files that a folder has
pub record ViewsFiles (how : View) (name : Bytes) (made : Printed) : Type 0 where
  pub files : List File
  pub walked : IsWalked files
  pub over : ViewsOver how files name made

abbrev pub ViewsDir : (dir : Bytes) → View → (name : Bytes) → Printed → Type 0
ViewsDir dir how name made = ViewsFiles how name made ⊎ (CannotWalk dir made ⊎ IsUnusable name made)

-- the same over the files of a bundle, or why its record can't be used
abbrev pub ViewsShown : (bundle : Bytes) → View → (name : Bytes) → Printed → Type 0
ViewsShown bundle how name made = ViewsOver how (files_of (lines_of bundle)) name made ⊎ IsUnusable name made

-- the same over files that define these jobs
pub record ViewsJobs (how : View) (jobs : List JobDef) (name : Bytes) (made : Printed) : Type 0 where
  pub files : List File
  pub define : Defines files jobs
  pub over : ViewsOver how files name made

-- the same for the table of an image, or why there is none
abbrev pub ViewsTable : (image : Bytes) → View → (name : Bytes) → List JobDef → Printed → Type 0
ViewsTable image how name jobs made = ViewsJobs how jobs name made ⊎ (IsUnusable image made ⊎ IsUnusable name made)

-- the same for the bytes of an image: by the table that they have, or they are refused
abbrev pub ViewsBytes : (bytes image : Bytes) → View → (name : Bytes) → Printed → Type 0
ViewsBytes bytes image how name made =
    ((jobs : List JobDef) × HasTable bytes jobs × ViewsTable image how name jobs made) ⊎ IsRefusedImage bytes made

-- the same for an image, or that its file can't be used
abbrev pub ViewsStored : (image : Bytes) → View → (name : Bytes) → Printed → Type 0
ViewsStored image how name made = ((bytes : Bytes) × ViewsBytes bytes image how name made) ⊎ IsUnusable image made

-- what is printed of a record over a folder or an image
abbrev pub ViewsSource : (source : Bytes) → View → (name : Bytes) → Printed → Type 0
ViewsSource source how name made = ViewsDir source how name made ⊎ ViewsStored source how name made

-- what is printed of a bundle that is compiled; at a bad step what a replay prints
abbrev pub viewed_by : View → (name : Bytes) → List JobDef → (faults : Printed) → Result (List Input) ℕ → Printed
viewed_by how name jobs faults (Ok inputs) = prints (shown how (run_chart jobs inputs)) faults.status
viewed_by how name jobs faults (Err line) = play_output [] name jobs faults (Err line)

abbrev pub viewed_run : View → (name : Bytes) → BundleRun → Printed
viewed_run how name run = viewed_by how name run.table run.faults run.read

-- what is printed of a record that is a bundle, which has 64 MiB at most: what the refusal of one of its folders prints, or this
pub record ViewsBundle (how : View) (name : Bytes) (made : Printed) : Type 0 where
  pub bytes : Bytes
  pub bounded : length bytes ≤ 67108864
  pub run : Result BundleRun Printed
  pub compiles : Compiles bytes run
  pub same : made ≡ output_by (viewed_run how name) run

-- the same, or that its file can't be used
abbrev pub ViewsFile : (name : Bytes) → View → Printed → Type 0
ViewsFile name how made = ViewsBundle how name made ⊎ IsUnusable name made
