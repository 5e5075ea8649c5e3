use Rattle.std.proofs.Common.{not, rules}
use Rattle.std.proofs.lemmas.Fn.{filter_same}
use Rattle.up_run.specs.Silences.{is_of}
use Rattle.up_run.proofs.silence.Silences.end.Goals as goal

pub returns-clause-list : goal.returns-clause-list
returns-clause-list c =
    filter_same _ (λ silence. not (is_of c.args.client silence)) _ (search rules) _ _ c.retain.ensures.filtered
