-- When the timer kills main, by what is kept of an instance (init(5), "kill timeout").
use Rattle.std.specs.Prelude.{◌≡◌, ℕ, ◌+◌, Bool, ◌&&◌, Option, option_map, is_some}
use Rattle.up_stanza.specs.declared.process.Process.TheVariants.{Main}
use Rattle.up_model.specs.Chronicle.{Chronicle}
use Rattle.up_model.specs.Clock.{has_passed, is_killed, kill_moment, milliseconds}
use Rattle.up_model.specs.Readings.{pid_of, state_of}
use Rattle.up_job.specs.declared.instance.Instance.{Instance}
use Rattle.up_job.specs.Changes.{child_of}

-- whether an instance is in killed and its main process lives
abbrev pub is_dying : Instance → Bool
is_dying instance = is_killed instance.state && is_some (child_of Main instance.children).pid

-- whether the timer is to kill main
abbrev pub is_overdue : (today : ℕ) → Instance → Bool
is_overdue today instance =
    is_dying instance && has_passed instance.kill_moment today (milliseconds instance.file.kill_timeout)

-- what the clock reads when the timer is to kill main, if it is to
abbrev pub kill_at : Instance → Option ℕ
kill_at instance =
    option_map (λ moment. moment + milliseconds instance.file.kill_timeout) instance.kill_moment

-- what is kept of an instance is what the timer reads in a history
pub record IsKept (place : ℕ) (c : Chronicle) (instance : Instance) : Type 0 where
  pub state : instance.state ≡ state_of place c
  pub main : (child_of Main instance.children).pid ≡ pid_of place Main c
  pub moment : instance.kill_moment ≡ kill_moment place c
