use Rattle.std.proofs.Common.{◌∙◌, ◌||◌, ap, ap₂}
use Rattle.std.proofs.lemmas.Result.{IfOk-weaker}
use Rattle.clap.specs.Words.{App, AddsSubcommand, with_subcommand}
use Rattle.clap.specs.declared.builder.command.Command.{Command}
use Rattle.up_wire.specs.Usage.{IsUsage}
use Rattle.up_wire.proofs.usage.join.Goals as goal

added : (app its : App) (line command result : Command) → IsUsage app line → IsUsage its command → AddsSubcommand line command result → IsUsage (with_subcommand app its.top) result
added app its line command result h k adds = record {
  reads = adds.shape k.local ∙ ap₂ with_subcommand h.reads (ap (λ (a : App). a.top) k.reads);
  local = adds.globals ∙ ap₂ (λ a b. a || b) h.local k.local;
  whole = adds.broken ∙ ap₂ (λ a b. a || b) h.whole k.whole;
}

pub returns : goal.returns
returns c app its h k = IfOk-weaker c.subcommand.result _ _ (λ result adds. added app its c.args.line c.args.command result h k adds) c.subcommand.ensures
