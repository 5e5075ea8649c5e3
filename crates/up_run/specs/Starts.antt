-- What a run begins with.
use Rattle.std.specs.Prelude.{◌≡◌, ◌⊎◌, ℕ, false, List, [], ◌∷◌, None, Some, codes}
use Rattle.up_conf.specs.declared.folder.File.{File}
use Rattle.up_conf.specs.declared.job.JobDef.{JobDef}
use Rattle.up_image.specs.Reading.{HasTable}
use Rattle.up_model.specs.declared.exit_status.ExitStatus.TheVariants.{Done}
use Rattle.up_model.specs.Configuration.{Configuration, started_with}
use Rattle.up_model.specs.declared.event.Event.{Event}
use Rattle.up_engine.specs.Stands.{Stands}
use Rattle.up_daemon.specs.declared.daemon.Daemon.{Daemon}
use Rattle.up_daemon.specs.Daemons.{engine_of, clients_of, first_of, was_refused}
use Rattle.up_print.specs.Folders.{prints, IsTable, PrintsFaults}
use Rattle.up_disk.specs.Disk.{CannotWalk, IsRefusedFile, IsRefusedImage, IsUnusable}
use Rattle.up_disk.specs.Walk.{IsWalked}
use Rattle.up_run.specs.declared.jobs.Jobs.{Jobs}

-- the jobs that files define, once the faults of those files are printed; none if the files are refused, and why
pub record AreOfFiles (files : List File) (jobs : Jobs) : Type 0 where
  pub printed : PrintsFaults files jobs.printed
  pub table : IsTable files jobs.table

-- those of the files that a folder has
pub record AreOfFolder (jobs : Jobs) : Type 0 where
  pub files : List File
  pub walked : IsWalked files
  pub defined : AreOfFiles files jobs

-- the jobs of an image, for which nothing is printed
pub record AreOfImage (image : List ℕ) (jobs : Jobs) : Type 0 where
  pub printed : jobs.printed ≡ prints [] Done
  pub stored : List JobDef
  pub table : jobs.table ≡ Some stored
  pub has : HasTable image stored

-- the jobs of an image, or none of one that is refused, and why
abbrev pub AreOfBytes : List ℕ → Jobs → Type 0
AreOfBytes image jobs = AreOfImage image jobs ⊎ ((jobs.table ≡ None) × IsRefusedImage image jobs.printed)

-- no jobs, and why
pub record AreNone (source : List ℕ) (jobs : Jobs) : Type 0 where
  pub none : jobs.table ≡ None
  pub why : CannotWalk source jobs.printed ⊎ (IsRefusedFile jobs.printed ⊎ IsUnusable source jobs.printed)

-- what a run reads of a folder or an image with this path
abbrev pub ReadsJobs : List ℕ → Jobs → Type 0
ReadsJobs source jobs = AreOfFolder jobs ⊎ (((image : List ℕ) × AreOfImage image jobs) ⊎ AreNone source jobs)

-- the environment of each process, before that of its job
abbrev pub run_base : List (List ℕ × List ℕ)
run_base = (codes "PATH", codes "/usr/sbin:/usr/bin:/sbin:/bin") ∷ []

-- what a run of these jobs goes by
abbrev pub run_of : List JobDef → Configuration
run_of jobs = started_with run_base jobs

-- the first event of a run: `startup` (startup(7))
abbrev pub first_events : List Event
first_events = record { name = codes "startup"; vars = [] } ∷ []

-- a daemon that no client has asked yet, whose engine has taken nothing, and whose first round begins with the first events of a run
pub record Begins (jobs : List JobDef) (daemon : Daemon) : Type 0 where
  pub engine : Stands (engine_of daemon) (run_of jobs) []
  pub first : first_of daemon ≡ first_events
  pub up : was_refused daemon ≡ false
  pub clients : clients_of daemon ≡ []
