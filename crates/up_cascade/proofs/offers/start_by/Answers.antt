use Rattle.std.proofs.Common.{◌≡◌, ◌++◌, Some, sym, subst, ◌∙◌, ap}
use Rattle.up_book.specs.Keys.{Stepping}
use Rattle.up_model.specs.Events.{events_at, events_env}
use Rattle.up_cascade.proofs.Starting.{start_by-called}
use Rattle.up_cascade.proofs.offers.start_by.Goals as goal

pub returns-in_ok-start_called-in-Some-clause-after : goal.returns-in_ok-start_called-in-Some-clause-after
returns-in_ok-start_called-in-Some-clause-after g c c' events s named held =
    let config = c.args.setup.now in
    let job = c.args.file.now in
    let base = ap (λ b. events_env b (events_at events c')) (c.environment_at-base.ensures job named) in
    let environment = c.in_ok-environment.ensures Stepping config c' events s (rw c.as_slice.ensures held) ∙ base in
    let expands = rw (c.job.ensures, c.in-Some.is, environment) at c.in_ok-name.ensures in
    let started = rw c.as_str.ensures at (c.in_ok-environment-in-Some.ensures Stepping c' job events s named (rw c.as_slice-keys.ensures held) environment) in
    let done = rw c.as_str-in-Some.ensures at (c.in_ok-start_called-in-Some.ensures.after config c' events s named held) in
    subst (λ es. g.B.Book.stands c.start_called.new.book Stepping config (es ++ c')) (start_by-called config job events c' c.in-Some.name _ (sym expands) started) done

pub returns-in_ok-start_called-in-Some-clause-events : goal.returns-in_ok-start_called-in-Some-clause-events
returns-in_ok-start_called-in-Some-clause-events g c c' events s named held k j event =
    let config = c.args.setup.now in
    let job = c.args.file.now in
    let base = ap (λ b. events_env b (events_at events c')) (c.environment_at-base.ensures job named) in
    let environment = c.in_ok-environment.ensures Stepping config c' events s (rw c.as_slice.ensures held) ∙ base in
    let expands = rw (c.job.ensures, c.in-Some.is, environment) at c.in_ok-name.ensures in
    let started = rw c.as_str.ensures at (c.in_ok-environment-in-Some.ensures Stepping c' job events s named (rw c.as_slice-keys.ensures held) environment) in
    let done = rw c.as_str-in-Some.ensures at (c.in_ok-start_called-in-Some.ensures.events config c' events s named held k j event) in
    subst (λ es. g.B.Book.event_place c.start_called.new.book (es ++ c') k ≡ Some j) (start_by-called config job events c' c.in-Some.name _ (sym expands) started) done
