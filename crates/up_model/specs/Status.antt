-- What a client reads of an instance (status(8), initctl(8) "list").
use Rattle.std.specs.Prelude.{ℕ, List, [], ◌∷◌, ◌++◌, Option, None, Some, codes}
use Rattle.std.specs.Fmt.{decimal}
use Rattle.up_model.specs.declared.who.Who.{Who}
use Rattle.up_model.specs.declared.state.Goal.{Goal}
use Rattle.up_model.specs.declared.state.Goal.TheVariants as goal
use Rattle.up_model.specs.declared.state.State.{State}
use Rattle.up_model.specs.declared.state.State.TheVariants as state

-- a goal by its name (initctl(8))
abbrev pub goal_name : Goal → List ℕ
goal_name goal.Start = codes "start"
goal_name goal.Stop = codes "stop"

-- a state by its name (the Upstart Cookbook's table of states)
abbrev pub state_name : State → List ℕ
state_name state.Waiting = codes "waiting"
state_name state.Starting = codes "starting"
state_name state.PreStart = codes "pre-start"
state_name state.Spawned = codes "spawned"
state_name state.PostStart = codes "post-start"
state_name state.Running = codes "running"
state_name state.PreStop = codes "pre-stop"
state_name state.Stopping = codes "stopping"
state_name state.Killed = codes "killed"
state_name state.PostStop = codes "post-stop"

-- an instance name, if there is one
abbrev pub instance_suffix : List ℕ → List ℕ
instance_suffix [] = []
instance_suffix (byte ∷ bytes) = codes " (" ++ (byte ∷ bytes) ++ codes ")"

-- an instance by its job's name and its own
unfoldable pub who_name : Who → List ℕ
who_name who = who.job ++ instance_suffix who.instance

-- what stands before the number of a state's own process if the main process lives too
abbrev pub beside_main : State → Option (List ℕ)
beside_main state.PostStart = Some (codes "\n\tpost-start process ")
beside_main state.PreStop = Some (codes "\n\tpre-stop process ")
beside_main other = None

-- and if no main process lives
abbrev pub without_main : State → Option (List ℕ)
without_main state.PreStart = Some (codes ", process ")
without_main state.PostStop = Some (codes ", process ")
without_main state.PostStart = Some (codes ", (post-start) process ")
without_main state.PreStop = Some (codes ", (pre-stop) process ")
without_main other = None

-- a process's number after what stands before it
abbrev pub process_text : Option (List ℕ) → ℕ → List ℕ
process_text None pid = []
process_text (Some label) pid = label ++ decimal pid

-- the living processes: main, and the state's own
abbrev pub processes_text : State → Option ℕ → Option ℕ → List ℕ
processes_text its None None = []
processes_text its None (Some own) = process_text (without_main its) own
processes_text its (Some main) None = process_text (Some (codes ", process ")) main
processes_text its (Some main) (Some own) =
    process_text (Some (codes ", process ")) main ++ process_text (beside_main its) own

-- an instance, its goal and state, and its living processes
unfoldable pub status_text : Who → Goal → State → Option ℕ → Option ℕ → List ℕ
status_text who its_goal its_state main own =
    who_name who ++ codes " " ++ goal_name its_goal ++ codes "/" ++ state_name its_state
    ++ processes_text its_state main own
