-- The instances of a job, as contracts see them: a list in byte order of their names.
use Rattle.std.specs.Prelude.{ℕ, ◌≤◌, ◌==◌, false, List, [], Option, None, length, if◌then◌else◌}
use Rattle.circular_buffer.specs.Buffer.{buffer}
use Rattle.up_conf.specs.declared.job.JobDef.{JobDef}
use Rattle.up_model.specs.declared.state.Goal.TheVariants.{Stop}
use Rattle.up_model.specs.declared.state.State.TheVariants.{Waiting}
use Rattle.up_model.specs.Values.{Bytes}
use Rattle.up_marks.specs.declared.mark.Mark.{Mark}
use Rattle.up_job.specs.declared.child.Child.{Child}
use Rattle.up_job.specs.declared.child.Children.{Children}
use Rattle.up_job.specs.declared.fault.JobFault.{JobFault}
use Rattle.up_job.specs.declared.fault.JobFault.TheVariants.{Full, Memory}
use Rattle.up_job.specs.declared.instance.Instance.{Instance}
use Rattle.up_job.specs.Moments.{room}
use Rattle.up_job.specs.Named as by_name

-- a process that isn't ordered and doesn't live
abbrev pub idle_child : Child
idle_child = record { awaited = false; pid = None }

abbrev pub idle : Children
idle = record {
  main = idle_child;
  pre_start = idle_child;
  post_start = idle_child;
  pre_stop = idle_child;
  post_stop = idle_child;
}

-- an instance that was just made, by its file and by what its `stop on` remembers
abbrev pub new_instance : Bytes → JobDef → (stop_on : Option (List Mark)) → Instance
new_instance name file stop_on = record {
  name = name;
  file = file;
  goal = Stop;
  state = Waiting;
  restarted = false;
  pending = None;
  env = None;
  stop_env = None;
  failure = None;
  holders = [];
  blocker = None;
  children = idle;
  kill_moment = None;
  moments = buffer [] (room file.limit);
  stop_on = stop_on;
}

abbrev pub name_of : Instance → Bytes
name_of instance = instance.name

-- the instance of this name
abbrev pub named : Bytes → List Instance → Option Instance
named name instances = by_name.named name_of name instances

-- one instance more, in byte order of names
abbrev pub with_instance : Instance → List Instance → List Instance
with_instance instance instances = by_name.put name_of instance instances

-- the instance of this name changed so
abbrev pub with_change : Bytes → (Instance → Instance) → List Instance → List Instance
with_change name change instances = by_name.with_change name_of name change instances

-- the instances but the one of this name
abbrev pub without : Bytes → List Instance → List Instance
without name instances = by_name.without name_of name instances

-- how many instances a job may have
abbrev pub max_instances : ℕ
max_instances = 1024

-- why a job with these instances gets no other one
abbrev pub refusal : List Instance → JobFault
refusal instances = if length instances == max_instances then Full else Memory

-- in byte order of names, no two the same, and no more than a job may have
abbrev pub IsInstanceList : List Instance → Type 0
IsInstanceList instances = by_name.AreInOrder name_of instances × (length instances ≤ max_instances)
