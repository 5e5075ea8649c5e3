use Rattle.std.proofs.Common.{◌≡◌, ◌++◌, ◌∙◌, refl, sym, ap, subst, true, false}
use Rattle.up_cascade.specs.Settling.{settle_one, settle_all}
use Rattle.up_model.specs.Due.{effect}
use Rattle.up_model.specs.Replies.{answering_last}
use Rattle.up_book.specs.Keys.{Stepping}
use Rattle.up_cascade.proofs.Hearing.{after-taken, after-other}
use Rattle.up_engine.proofs.Quiet.{after-quiet}
use Rattle.up_engine.proofs.step.run_step.Goals as goal

pub returns-in-Nobody-clause-after : goal.returns-in-Nobody-clause-after
returns-in-Nobody-clause-after g c c' s rest =
    let config = c.args.setup.now in
    let quiet = rw c.in-Nobody.is at (c.in_ok-apply_effect.ensures.concerns c' s) in
    subst (g.B.Book.stands c.apply_effect.new.book Stepping config) (after-quiet config c.args.input c' (quiet rest.rested)) (c.in_ok-apply_effect.ensures.after c' s)

pub returns-in_ok-reply_last-in-Client-clause-after : goal.returns-in_ok-reply_last-in-Client-clause-after
returns-in_ok-reply_last-in-Client-clause-after g c c' s rest =
    let config = c.args.setup.now in
    let d = effect config c.args.input c' ++ c' in
    let idle = (rw c.in-Client.is at (c.in_ok-apply_effect.ensures.concerns c' s)) rest.rested in
    let same : answering_last (settle_all config.jobs d) ++ settle_all config.jobs d ≡ answering_last d ++ d = ap (λ f. answering_last f ++ f) idle.still in
    subst (g.B.Book.stands c.reply_last.new.self Stepping config) (sym same ∙ after-other config c.args.input c' c.names_differ.ensures idle.unasked)
    (c.in_ok-reply_last-in-Client.ensures.after config d (c.in_ok-apply_effect.ensures.after c' s))

pub returns-in_ok-settle_alone-in-Instance-clause-after : goal.returns-in_ok-settle_alone-in-Instance-clause-after
returns-in_ok-settle_alone-in-Instance-clause-after g c c' s rest =
    let config = c.args.setup.now in
    let d = effect config c.args.input c' ++ c' in
    let alone = (rw c.in-Instance.is at (c.in_ok-apply_effect.ensures.concerns c' s)) rest.rested in
    let settled = settle_one 5 alone.its.file alone.its d in
    let same : answering_last (settle_all config.jobs d) ++ settle_all config.jobs d ≡ answering_last settled ++ settled = ap (λ f. answering_last f ++ f) alone.settles in
    subst (g.B.Book.stands c.settle_alone.new.book Stepping config) (sym same ∙ after-other config c.args.input c' c.names_differ.ensures alone.unasked)
    (c.in_ok-settle_alone-in-Instance.ensures d alone.its (c.in_ok-apply_effect.ensures.after c' s) alone.there)

pub returns-in_ok-hear_all-in-Event-clause-after : goal.returns-in_ok-hear_all-in-Event-clause-after
returns-in_ok-hear_all-in-Event-clause-after g c c' s rest =
    let config = c.args.setup.now in
    let takes = rw c.in-Event.is at (c.in_ok-apply_effect.ensures.concerns c' s) in
    let stood = subst (g.B.Book.stands c.apply_effect.new.book Stepping config) takes.1 (c.in_ok-apply_effect.ensures.after c' s) in
    subst (g.B.Book.stands c.hear_all.new.book Stepping config) (after-taken config c.args.input c' takes.0 c.names_differ.ensures rest.rested takes.1)
    (c.in_ok-hear_all-in-Event.ensures.after c' takes.0 rest.rested rest.untrue stood takes.2)

pub returns-in_ok-settle_jobs-in-Anybody-clause-after : goal.returns-in_ok-settle_jobs-in-Anybody-clause-after
returns-in_ok-settle_jobs-in-Anybody-clause-after g c c' s rest =
    let config = c.args.setup.now in
    let takes = rw c.in-Anybody.is at (c.in_ok-apply_effect.ensures.concerns c' s) in
    subst (g.B.Book.stands c.settle_jobs.new.book Stepping config) (after-other config c.args.input c' c.names_differ.ensures takes) (c.in_ok-settle_jobs-in-Anybody.ensures _ (c.in_ok-apply_effect.ensures.after c' s))

pub returns-in-Nobody-clause-free : goal.returns-in-Nobody-clause-free
returns-in-Nobody-clause-free g c c' s free = (refl, c.in_ok-apply_effect.ensures.after c' s)

pub returns-in_ok-reply_last-in-Client-clause-free : goal.returns-in_ok-reply_last-in-Client-clause-free
returns-in_ok-reply_last-in-Client-clause-free g c c' s free = absurd (rw c.in-Client.is at (c.in_ok-apply_effect.ensures.free c' s free))

pub returns-in_ok-settle_alone-in-Instance-clause-free : goal.returns-in_ok-settle_alone-in-Instance-clause-free
returns-in_ok-settle_alone-in-Instance-clause-free g c c' s free = absurd (rw c.in-Instance.is at (c.in_ok-apply_effect.ensures.free c' s free))

pub returns-in_ok-hear_all-in-Event-clause-free : goal.returns-in_ok-hear_all-in-Event-clause-free
returns-in_ok-hear_all-in-Event-clause-free g c c' s free =
    let config = c.args.setup.now in
    let d = effect config c.args.input c' ++ c' in
    let stood = c.in_ok-apply_effect.ensures.after c' s in
    let takes = rw c.in-Event.is at (c.in_ok-apply_effect.ensures.free c' s free) in
    let unheard = c.in_ok-hear_all-in-Event.ensures.unheard d takes.0 stood takes.1.0 takes.1.1 in
    (refl, subst (λ b. g.B.Book.stands b Stepping config d) (sym unheard.1) stood)

pub returns-in_ok-settle_jobs-in-Anybody-clause-free : goal.returns-in_ok-settle_jobs-in-Anybody-clause-free
returns-in_ok-settle_jobs-in-Anybody-clause-free g c c' s free = absurd (rw c.in-Anybody.is at (c.in_ok-apply_effect.ensures.free c' s free))

pub returns-in_err-hear_all-in-Event-clause-free : goal.returns-in_err-hear_all-in-Event-clause-free
returns-in_err-hear_all-in-Event-clause-free g c c' s free =
    let config = c.args.setup.now in
    let d = effect config c.args.input c' ++ c' in
    let stood = c.in_ok-apply_effect.ensures.after c' s in
    let takes = rw c.in-Event.is at (c.in_ok-apply_effect.ensures.free c' s free) in
    let no : false ≡ true = (c.in_err-hear_all-in-Event.ensures.unheard d takes.0 stood takes.1.0 takes.1.1).0 in
    absurd cc
