use Rattle.std.proofs.Common.{◌∙◌, ap, false, refl}
use Rattle.up_ledger.specs.Holding.{freed, all_changed, all_kept, as_holders}
use Rattle.up_ledger.proofs.Loading.{forgets-loaded}
use Rattle.up_ledger.proofs.past.Past.load.Goals as goal

pub returns : goal.returns
returns c config c' jobs f same =
    forgets-loaded c.args.self.now _ config c' jobs c.args.files.now f c.requires same c.in_ok-replace.ensures c.in_ok-starts.ensures
    (c.in_ok-free_starts.ensures ∙ ap (λ ts. all_changed (freed false) (as_holders (all_kept ts)) c.args.self.now.events) c.as_slice.ensures.value) refl
