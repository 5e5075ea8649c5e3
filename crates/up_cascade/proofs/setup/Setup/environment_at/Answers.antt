use Rattle.std.proofs.Common.{◌∙◌, ap, slice_get, unwrap_or}
use Rattle.up_cascade.proofs.SetupLemmas.{environment_by_index}
use Rattle.up_cascade.proofs.setup.Setup.environment_at.Goals as goal

pub returns : goal.returns
returns c job there =
    let its = c.self.inside in
    let here = rw (← c.self.view_is) at there in
    let distinct = rw (← c.self.view_is) at c.names_differ.ensures in
    rw (← c.self.view_is)
    (c.environment_at.ensures ∙ ap (λ xs. unwrap_or (slice_get xs c.args.index) its.base) c.as_slice.ensures.value
    ∙ environment_by_index its.base its.environments.items its.files.items c.args.index job c.self.invariant.0 distinct here)
