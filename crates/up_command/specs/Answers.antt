-- The status of what a command line asks for.
use Rattle.up_command.specs.declared.command.Invocation.{Invocation}
use Rattle.up_command.specs.declared.command.Invocation.TheVariants.{Bundle, Check, Compare, Compile, Graph, Lint, Replay, ReplayFile, Run, Show, View, ViewFile}
use Rattle.up_disk.specs.Disk.{ChecksBy, CompilesDir, EndsWith, GraphsDir, PlaysFile, PlaysSource, ShowsFile}
use Rattle.up_model.specs.declared.exit_status.ExitStatus.{ExitStatus}
use Rattle.up_tools.specs.Compares.{ComparesDir}
use Rattle.up_tools.specs.Lints.{LintsDir}
use Rattle.up_tools.specs.Views.{ViewsFile, ViewsSource}

-- the status of what is asked for; that of a bundle rests on standard input, and that of a run on its rounds
abbrev pub Answers : Invocation → ExitStatus → Type 0
Answers Bundle status = Unit {0}
Answers (Check dir explain) status = EndsWith (ChecksBy explain dir.now) status
Answers (Compare dir other) status = EndsWith (ComparesDir dir.now other.now) status
Answers (Graph dir) status = EndsWith (GraphsDir dir.now) status
Answers (Lint dir left_out outside) status = EndsWith (LintsDir dir.now left_out outside) status
Answers (Compile dir image) status = EndsWith (CompilesDir dir.now image.now) status
Answers (Show image) status = EndsWith (ShowsFile image.now) status
Answers (Replay source script base) status = EndsWith (PlaysSource source.now base script.now) status
Answers (ReplayFile bundle base) status = EndsWith (PlaysFile bundle.now base) status
Answers (View view source log) status = EndsWith (ViewsSource source.now view log.now) status
Answers (ViewFile view bundle) status = EndsWith (ViewsFile bundle.now view) status
Answers (Run source socket rounds options) status = Unit {0}
