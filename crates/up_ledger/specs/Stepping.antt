-- What a change makes of a summary.
use Rattle.std.specs.Prelude.{Bool, true, false, [], None, Some, map, option_map}
use Rattle.up_job.specs.Moments.{noted}
use Rattle.up_job.specs.Changes.{is_starting, ordered, answered, lost}
use Rattle.up_model.specs.declared.state.Goal.TheVariants.{Start, Stop}
use Rattle.up_job.specs.declared.change.Change.{Change}
use Rattle.up_job.specs.declared.change.Change.TheVariants as change
use Rattle.up_book.specs.Summaries.{Summary}
use Rattle.up_book.specs.Views.{Places, bindings_of, holding_of}

abbrev pub starting_if : Bool → Summary → Summary
starting_if true s = record s { failure = None; env = s.pending }
starting_if false s = s

abbrev pub stepped : Places → Change → Summary → Summary
stepped places (change.Starts environment holders) s = record s { goal = Start; pending = environment; stop_env = []; holders = map (holding_of places) holders }
stepped places (change.Stops environment holders) s = record s { goal = Stop; stop_env = bindings_of environment; holders = map (holding_of places) holders }
stepped places change.Ends s = record s { goal = Stop; stop_env = [] }
stepped places (change.Restarts holders) s = record s { restarted = true; holders = map (holding_of places) holders }
stepped places (change.Releases none) s = record s { holders = map (holding_of places) none }
stepped places (change.Fails failure) s = record s { failure = Some failure }
stepped places (change.Enters state) s = record (starting_if (is_starting state) s) { state = state; restarted = false; kill_moment = None }
stepped places (change.Orders its) s = record s { children = ordered its s.children }
stepped places (change.Answers its pid) s = record s { children = answered its pid s.children }
stepped places (change.Loses its) s = record s { children = lost its s.children }
stepped places (change.Signals moment) s = record s { kill_moment = moment }
stepped places (change.Waits event) s = record s { blocker = option_map places event }
stepped places (change.Respawns moment) s = record s { moments = noted moment s.moments }
