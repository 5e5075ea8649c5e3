use Rattle.std.proofs.Common.{refl, ap}
use Rattle.up_pattern.specs.Pattern.{Among, symbols, body, ranges}
use Rattle.up_pattern.proofs.ItemReading.{means-open, means-closed}
use Rattle.up_pattern.proofs.pattern.read_inner.Goals as goal

pub returns-in-Open : goal.returns-in-Open
returns-in-Open c = means-open c.args.text.now _ (rw c.requires.inner at c.in-Open.ensures.0) (rw c.requires.inner at c.in-Open.ensures.1) refl refl

pub returns-in-Closed : goal.returns-in-Closed
returns-in-Closed c =
    means-closed c.args.text.now c.args.set.now c.in-Closed.rest.now _ c.requires.inner c.requires.shorter c.in-Closed.ensures
    (ap (λ inverted. Among inverted (ranges (body (symbols c.args.set.now)))) c.requires.inverted) refl refl
