-- A run by hand: what comes to a job's notice, and what it does.
use Rattle.std.proofs.Common.{◌≡◌, false, List, [], ◌∷◌, None, Some, codes, refl}
use Rattle.up_conf.specs.declared.job.JobDef.{JobDef}
use Rattle.up_expr.specs.Trees.{One}
use Rattle.up_stanza.specs.declared.action.Action.TheVariants.{Words}
use Rattle.up_stanza.specs.declared.process.Process.TheVariants.{Main}
use Rattle.up_model.specs.declared.event.Event.{Event}
use Rattle.up_model.specs.declared.input.Input.{Input}
use Rattle.up_model.specs.declared.input.Input.TheVariants as input
use Rattle.up_model.specs.declared.output.Output.TheVariants as output
use Rattle.up_model.specs.declared.request.Command.TheVariants.{Start}
use Rattle.up_model.specs.Requests.{RequestValue}
use Rattle.up_model.specs.Answers.{after, after_all, is_expected}
use Rattle.up_model.specs.declared.loaded.Loaded.TheVariants as loaded
use Rattle.up_model.specs.Configuration.{Configuration, started_with}
use Rattle.up_model.specs.Due.{due, effect}
use Rattle.up_model.specs.Work.{work, settle}
use Rattle.up_model.specs.Values.{Bytes}
use Rattle.up_text.specs.Expansion as expansion
use Rattle.up_model.specs.declared.who.Who.{Who}
use Rattle.up_isolation.specs.Views.{Received, Arrived, Unblocked, Replaced, view, deeds}

-- `start on go`, `exec /bin/d`
abbrev job_on_go : Bytes → JobDef
job_on_go name = record {
  name = name;
  task = false;
  respawn = false;
  silent = false;
  instance = [];
  dir = [];
  limit = record { count = 10; interval = 5 };
  kill_signal = 15;
  kill_timeout = 5;
  reload_signal = 1;
  env = [];
  export = [];
  normal = [];
  main = Some (Words (codes "/bin/d" ∷ []));
  pre_start = None;
  post_start = None;
  pre_stop = None;
  post_stop = None;
  start_on = Some (One (record { event = codes "go"; values = [] }));
  stop_on = None;
}

abbrev two_jobs : Configuration
two_jobs = started_with [] (job_on_go (codes "a") ∷ job_on_go (codes "b") ∷ [])

abbrev go : Event
go = record { name = codes "go"; vars = [] }

abbrev of_a : Event
of_a = record { name = codes "starting"; vars = (codes "JOB", codes "a") ∷ (codes "INSTANCE", []) ∷ [] }

abbrev who_of : Bytes → Who
who_of job = record { job = job; instance = [] }

-- one of two jobs that are started by an event fails: the other goes on
abbrev one_fails : List Input
one_fails =
    input.Emit go ∷ input.Turn ∷ input.Turn ∷ input.Turn ∷ input.Turn ∷ input.Turn
    ∷ input.Refused (who_of (codes "b")) Main ∷ input.Spawned (who_of (codes "a")) Main 100
    ∷ input.Turn ∷ []

-- what comes to its notice, newest first
noticed : view (codes "a") two_jobs (after_all two_jobs [] one_fails)
    ≡ Received (input.Spawned (who_of (codes "a")) Main 100) ∷ Unblocked [] ∷ Arrived go ∷ []
unfolding view after_all after is_expected due effect work settle expansion.expand
noticed = refl

abbrev alone_jobs : Configuration
alone_jobs = started_with [] (job_on_go (codes "a") ∷ [])

-- alone it does the same by the same notices
alone_noticed : view (codes "a") alone_jobs
    (after_all alone_jobs [] (input.Emit go ∷ input.Turn ∷ input.Turn ∷ input.Turn
    ∷ input.Spawned (who_of (codes "a")) Main 100 ∷ []))
    ≡ Received (input.Spawned (who_of (codes "a")) Main 100) ∷ Unblocked [] ∷ Arrived go ∷ []
unfolding view after_all after is_expected due effect work settle expansion.expand
alone_noticed = refl

-- `stop on go`, `exec /bin/d`
abbrev job_off_go : Bytes → JobDef
job_off_go name = record (job_on_go name) { start_on = None; stop_on = Some (One (record { event = codes "go"; values = [] })) }

abbrev off_jobs : Configuration
off_jobs = started_with [] (job_off_go (codes "c") ∷ [])

-- an event that a `stop on` alone names comes to no notice of a job without an instance
unheard : view (codes "c") off_jobs (after_all off_jobs [] (input.Emit go ∷ input.Turn ∷ [])) ≡ []
unfolding view after_all after is_expected due effect work settle expansion.expand
unheard = refl

abbrev start_c : RequestValue
start_c = record { command = Start; name = codes "c"; vars = []; wait = false }

-- but of one that has an instance
heard : view (codes "c") off_jobs
    (after_all off_jobs [] (input.Request 1 start_c ∷ input.Emit go ∷ input.Turn ∷ input.Turn ∷ input.Turn ∷ []))
    ≡ Arrived go ∷ Unblocked [] ∷ Received (input.Request 1 start_c) ∷ []
unfolding view after_all after is_expected due effect work settle expansion.expand
heard = refl

-- the event of its start is its deed
start_it : deeds (codes "a") (after_all two_jobs [] (input.Emit go ∷ input.Turn ∷ []))
    ≡ output.Emitted of_a ∷ []
unfolding deeds after_all after is_expected due effect work settle expansion.expand
start_it = refl

-- a load without it comes to its notice, and events that it would hear don't any more
gone : view (codes "a") two_jobs
    (after_all two_jobs [] (input.Load 1 (loaded.Files (job_on_go (codes "b") ∷ [])) ∷ input.Emit go ∷ input.Turn ∷ []))
    ≡ Replaced [] ∷ []
unfolding view after_all after is_expected due effect work settle expansion.expand
gone = refl

-- the same load as two jobs see it
other_file : view (codes "b") two_jobs (after_all two_jobs [] (input.Load 1 (loaded.Files (job_on_go (codes "b") ∷ [])) ∷ []))
    ≡ Replaced (job_on_go (codes "b") ∷ []) ∷ []
unfolding view after_all after is_expected due effect work settle expansion.expand
other_file = refl

-- a load without a job that has an instance, and the event again that started it
abbrev goes_on : List Input
goes_on =
    input.Emit go ∷ input.Turn ∷ input.Load 1 (loaded.Files (job_on_go (codes "b") ∷ [])) ∷ input.Emit go ∷ input.Turn ∷ input.Turn
    ∷ input.Turn ∷ input.Turn ∷ input.Turn ∷ input.Turn ∷ []

-- the job goes on, but doesn't hear it, as the other does
goes_deaf : view (codes "a") two_jobs (after_all two_jobs [] goes_on) ≡ Unblocked [] ∷ Replaced [] ∷ Arrived go ∷ []
unfolding view after_all after is_expected due effect work settle expansion.expand
goes_deaf = refl

other_hears : view (codes "b") two_jobs (after_all two_jobs [] goes_on)
    ≡ Arrived go ∷ Unblocked [] ∷ Replaced (job_on_go (codes "b") ∷ []) ∷ Arrived go ∷ []
unfolding view after_all after is_expected due effect work settle expansion.expand
other_hears = refl
