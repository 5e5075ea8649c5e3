-- The parts of a job by which two jobs may differ.
use Rattle.std.specs.Prelude.{◌≡◌, Bool, ◌==◌, List, [], ◌∷◌, codes}
use Rattle.std.specs.Cmp.Lexicographic.{pointwise}
use Rattle.std.specs.Str.{bytes_eq}
use Rattle.up_value.specs.Values.{Bytes}
use Rattle.up_conf.specs.declared.job.JobDef.{JobDef}
use Rattle.up_stanza.specs.Exits.{same_exit}
use Rattle.up_tools.specs.declared.changes.part.Part.{Part}
use Rattle.up_tools.specs.declared.changes.part.Part.TheVariants as part
use Rattle.up_tools.specs.Same.{same_action, same_flag, same_limit, same_option, same_setting, same_tree}

-- the stanza that says a part
abbrev pub name_of : Part → Bytes
name_of part.Task = codes "task"
name_of part.Respawn = codes "respawn"
name_of part.Console = codes "console"
name_of part.Instance = codes "instance"
name_of part.Chdir = codes "chdir"
name_of part.RespawnLimit = codes "respawn limit"
name_of part.KillSignal = codes "kill signal"
name_of part.KillTimeout = codes "kill timeout"
name_of part.ReloadSignal = codes "reload signal"
name_of part.Env = codes "env"
name_of part.Export = codes "export"
name_of part.NormalExit = codes "normal exit"
name_of part.Exec = codes "exec"
name_of part.PreStart = codes "pre-start"
name_of part.PostStart = codes "post-start"
name_of part.PreStop = codes "pre-stop"
name_of part.PostStop = codes "post-stop"
name_of part.StartOn = codes "start on"
name_of part.StopOn = codes "stop on"

-- all parts, in the order of the fields of a job
abbrev pub parts : List Part
parts =
    part.Task ∷ part.Respawn ∷ part.Console ∷ part.Instance ∷ part.Chdir ∷ part.RespawnLimit ∷ part.KillSignal ∷ part.KillTimeout
    ∷ part.ReloadSignal ∷ part.Env ∷ part.Export ∷ part.NormalExit ∷ part.Exec ∷ part.PreStart ∷ part.PostStart ∷ part.PreStop
    ∷ part.PostStop ∷ part.StartOn ∷ part.StopOn ∷ []

-- that two jobs have this part in common: the values of its field are equal
abbrev pub Agree : Part → JobDef → JobDef → Type 0
Agree part.Task job other = job.task ≡ other.task
Agree part.Respawn job other = job.respawn ≡ other.respawn
Agree part.Console job other = job.silent ≡ other.silent
Agree part.Instance job other = job.instance ≡ other.instance
Agree part.Chdir job other = job.dir ≡ other.dir
Agree part.RespawnLimit job other = job.limit ≡ other.limit
Agree part.KillSignal job other = job.kill_signal ≡ other.kill_signal
Agree part.KillTimeout job other = job.kill_timeout ≡ other.kill_timeout
Agree part.ReloadSignal job other = job.reload_signal ≡ other.reload_signal
Agree part.Env job other = job.env ≡ other.env
Agree part.Export job other = job.export ≡ other.export
Agree part.NormalExit job other = job.normal ≡ other.normal
Agree part.Exec job other = job.main ≡ other.main
Agree part.PreStart job other = job.pre_start ≡ other.pre_start
Agree part.PostStart job other = job.post_start ≡ other.post_start
Agree part.PreStop job other = job.pre_stop ≡ other.pre_stop
Agree part.PostStop job other = job.post_stop ≡ other.post_stop
Agree part.StartOn job other = job.start_on ≡ other.start_on
Agree part.StopOn job other = job.stop_on ≡ other.stop_on

-- whether they have, told from its bytes and numbers
abbrev pub same_part : Part → JobDef → JobDef → Bool
same_part part.Task job other = same_flag job.task other.task
same_part part.Respawn job other = same_flag job.respawn other.respawn
same_part part.Console job other = same_flag job.silent other.silent
same_part part.Instance job other = bytes_eq job.instance other.instance
same_part part.Chdir job other = bytes_eq job.dir other.dir
same_part part.RespawnLimit job other = same_limit job.limit other.limit
same_part part.KillSignal job other = job.kill_signal == other.kill_signal
same_part part.KillTimeout job other = job.kill_timeout == other.kill_timeout
same_part part.ReloadSignal job other = job.reload_signal == other.reload_signal
same_part part.Env job other = pointwise same_setting job.env other.env
same_part part.Export job other = pointwise bytes_eq job.export other.export
same_part part.NormalExit job other = pointwise same_exit job.normal other.normal
same_part part.Exec job other = same_option same_action job.main other.main
same_part part.PreStart job other = same_option same_action job.pre_start other.pre_start
same_part part.PostStart job other = same_option same_action job.post_start other.post_start
same_part part.PreStop job other = same_option same_action job.pre_stop other.pre_stop
same_part part.PostStop job other = same_option same_action job.post_stop other.post_stop
same_part part.StartOn job other = same_option same_tree job.start_on other.start_on
same_part part.StopOn job other = same_option same_tree job.stop_on other.stop_on
