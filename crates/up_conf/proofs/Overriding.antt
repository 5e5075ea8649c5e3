-- The fault of an override is the one that its bytes have.
use Rattle.std.proofs.Common.{◌≡◌, ℕ, List, true, Option, Some, None, option_map}
use Rattle.std.specs.Result.{result_err}
use Rattle.up_stanza.specs.Confs.{conf_of}
use Rattle.up_conf.specs.declared.folder.File.{File}
use Rattle.up_conf.specs.declared.report.Fault.{Fault}
use Rattle.up_conf.specs.Folders.{has_conf, job_name, overridden_name, line_in, spot_of_file}
use Rattle.up_conf.specs.Outcomes.{IsFault}

pub override_spot : (files : List File) (file : File) (name : List ℕ) (found : Option Fault)
    → job_name file.path ≡ None → overridden_name file.path ≡ Some name → has_conf files (Some name) ≡ true
    → IsFault (option_map (λ line. record { path = file.path; line = line }) (result_err (conf_of file.bytes))) found
    → IsFault (spot_of_file files file) found
unfolding line_in
override_spot files file name found none is has fault = rw (none, is, has) fault
