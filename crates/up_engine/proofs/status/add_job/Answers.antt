use Rattle.std.proofs.Common.{◌∙◌, ◌++◌, sym, ap}
use Rattle.up_engine.proofs.AnswerLemmas.{lines_filled, lines_none}
use Rattle.up_model.specs.Configuration.{is_removed}
use Rattle.up_model.specs.Instances.{instances_of}
use Rattle.up_engine.proofs.status.add_job.Goals as goal

pub returns-in_ok-add_stopped : goal.returns-in_ok-add_stopped
returns-in_ok-add_stopped g c mode c' s named =
    let name = c.args.job.now.name in
    let count = c.count.ensures mode c.args.setup.now c' name s named in
    c.in_ok-add_stopped.ensures
    ∙ ap (λ lines. c.args.lines.now.items ++ lines) (lines_none name (is_removed c.args.setup.now name) (instances_of name c') c.count.result c' count (sym c.is_zero.ensures ∙ c.if-is_zero.true))

pub returns-in_ok-add_statuses : goal.returns-in_ok-add_statuses
returns-in_ok-add_statuses g c mode c' s named =
    let name = c.args.job.now.name in
    let config = c.args.setup.now in
    let count = c.count.ensures mode config c' name s named in
    c.in_ok-add_statuses.ensures mode config c' name s named
    ∙ ap (λ lines. c.args.lines.now.items ++ lines) (lines_filled name (is_removed config name) (instances_of name c') c.count.result c' count (sym c.is_zero.ensures ∙ c.if-is_zero.false))
