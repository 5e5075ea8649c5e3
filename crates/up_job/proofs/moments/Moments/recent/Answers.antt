use Rattle.std.proofs.Common.{◌≡◌, ◌-◌, ◌∙◌, nat_lt, count_by, rules}
use Rattle.up_job.proofs.MomentLemmas.{count-recent}
use Rattle.up_job.proofs.moments.Moments.recent.Goals as goal

pub returns : goal.returns
returns c =
    let counted : c.count.result ≡ count_by (λ moment. nat_lt (c.args.now - moment) c.args.span) c.args.self.now.items = search rules in
    counted ∙ count-recent c.args.now c.args.span c.args.self.now.items
