-- What the files of a folder say (init(5)).
use Rattle.std.specs.Prelude.{◌≡◌, ℕ, ◌-◌, Bool, true, false, nat_eq, nat_le, ◌||◌, not, if◌then◌else◌, List, [], ◌++◌, length, take, map, find, filter_map, Option, None, Some, is_some, option_map, option_and_then, unwrap_or, codes}
use Rattle.std.specs.List.{list_all, ends_with}
use Rattle.std.specs.Result.{result_ok, result_err}
use Rattle.std.specs.Str.{bytes_eq}
use Rattle.up_value.specs.Values.{Bytes}
use Rattle.up_text.specs.Names.{is_name}
use Rattle.up_conf.specs.declared.folder.File.{File}
use Rattle.up_conf.specs.declared.job.JobDef.{JobDef}
use Rattle.up_conf.specs.declared.report.Fault.{Fault}
use Rattle.up_stanza.specs.declared.stanza.Stanza.{Stanza}
use Rattle.up_stanza.specs.Confs.{conf_of}
use Rattle.up_stanza.specs.FaultCodes.{number_of}
use Rattle.up_conf.specs.Jobs.{job_of}
use Rattle.up_conf.specs.Order.{in_order}

-- a path without its ending, if it has this one
abbrev pub without_ending : Bytes → Bytes → Option Bytes
without_ending ending path = if ends_with nat_eq path ending
    then Some (take (length path - length ending) path) else None

-- the name of the job that a path stands for: the path without `.conf`
abbrev pub job_name : Bytes → Option Bytes
job_name path = without_ending (codes ".conf") path

-- the name of the job whose file a path overrides: the path without `.override`
abbrev pub overridden_name : Bytes → Option Bytes
overridden_name path = without_ending (codes ".override") path

-- the bytes of the file with this path; if several have it, of the first
abbrev pub bytes_at : Bytes → List File → Option Bytes
bytes_at path files = option_map (λ file. file.bytes) (find (λ file. bytes_eq file.path path) files)

-- whether the file of a job is there
abbrev pub has_conf : List File → Option Bytes → Bool
has_conf files None = false
has_conf files (Some name) = is_some (bytes_at (name ++ codes ".conf") files)

-- which paths are read: those of jobs, and overrides of jobs whose file is there
abbrev pub is_read : List File → Bytes → Bool
is_read files path = is_some (job_name path) || has_conf files (overridden_name path)

-- the stanzas of a job's override: none if it has none, or a faulty one
unfoldable pub override_of : List File → Bytes → List Stanza
override_of files name =
    unwrap_or (option_and_then (λ bytes. result_ok (conf_of bytes)) (bytes_at (name
    ++ codes ".override") files)) []

-- the job of this name, whose file has these bytes
unfoldable pub job_in : List File → Bytes → Bytes → Option JobDef
job_in files name bytes = if is_name name
    then option_map (λ stanzas. job_of name (stanzas ++ override_of files name)) (result_ok (conf_of bytes))
    else None

-- the job that a file of the folder defines
abbrev pub job_of_file : List File → File → Option JobDef
job_of_file files file = option_and_then (λ name. job_in files name file.bytes) (job_name file.path)

-- the jobs of a folder, in byte order of names
unfoldable pub jobs_of : List File → List JobDef
jobs_of files = in_order (λ job. job.name) (filter_map (job_of_file files) files)

-- whether a path stands for a job whose name is none
abbrev pub is_misnamed : Option Bytes → Bool
is_misnamed None = false
is_misnamed (Some name) = not (is_name name)

-- a line of a file
pub record Spot : Type 0 where
  pub path : Bytes
  pub line : ℕ

-- the line of the fault of a file that is read
unfoldable pub line_in : Bytes → Bytes → Option ℕ
line_in path bytes = if is_misnamed (job_name path) then Some 1 else result_err (conf_of bytes)

-- where a file is faulty, if it is read
abbrev pub spot_in : File → Option Spot
spot_in file = option_map (λ line. record { path = file.path; line = line }) (line_in file.path file.bytes)

-- where a file of the folder is faulty
abbrev pub spot_of_file : List File → File → Option Spot
spot_of_file files file = if is_read files file.path then spot_in file else None

-- where a folder is faulty, in byte order of paths
unfoldable pub spots_of : List File → List Spot
spots_of files = in_order (λ spot. spot.path) (filter_map (spot_of_file files) files)

abbrev pub spot_of : Fault → Spot
spot_of fault = record { path = fault.path; line = fault.line }

-- a report of a folder's faults: where they are, each with a code from 1 to 16
pub record IsReport (files : List File) (report : List Fault) : Type 0 where
  pub spots : map spot_of report ≡ spots_of files
  pub codes : list_all (λ fault. nat_le (number_of fault.code) 16) report ≡ true
