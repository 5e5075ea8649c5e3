use Rattle.std.proofs.Common.{◌∙◌, sym, ap, Some}
use Rattle.up_model.specs.Outputs.{order_for}
use Rattle.up_book.specs.Sending.{env_by, who_by}
use Rattle.up_book.specs.Views.{view}
use Rattle.up_book.proofs.orders.order_with.Goals as goal

pub returns : goal.returns
returns c places found =
    let job = c.args.job.now in
    let its = c.args.process in
    c.in_ok-order.ensures ∙ ap (λ who. order_for job who its (Some c.args.action.now) c.in_ok-env.env) c.in_ok-who.ensures
    ∙ ap (λ env. order_for job (who_by job (view places c.args.kept.now)) its (Some c.args.action.now) env) (c.in_ok-env.ensures places)
    ∙ ap (λ action. order_for job (who_by job (view places c.args.kept.now)) its action (env_by (view places c.args.kept.now) its)) (sym found)
