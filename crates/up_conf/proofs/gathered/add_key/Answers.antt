use Rattle.std.proofs.Common.{◌∙◌, ◌++◌, ◌∷◌, [], sym, ap}
use Rattle.std.specs.List.{list_any}
use Rattle.std.specs.Str.{bytes_eq}
use Rattle.up_conf.proofs.Gathers.{added_new, added_old}
use Rattle.up_conf.proofs.gathered.add_key.Goals as goal

pub returns-in_ok-push-clause-seen : goal.returns-in_ok-push-clause-seen
returns-in_ok-push-clause-seen c = λ other.
    let old = c.args.keys.now.items in
    let key = c.args.key.now in
    let whole =
    c.in_ok-push.ensures.items ∙ ap (λ k. old ++ k ∷ []) c.in_ok-copied.ensures
    ∙ sym (added_new old key (sym (c.in_ok-new.ensures.new old c.requires) ∙ c.if-new.true)) in
    c.in_ok-new.ensures.seen old c.requires other ∙ ap (list_any (bytes_eq other)) (sym whole)

pub returns-else-new-clause-seen : goal.returns-else-new-clause-seen
returns-else-new-clause-seen c = λ other.
    let old = c.args.keys.now.items in
    let key = c.args.key.now in
    c.in_ok-new.ensures.seen old c.requires other ∙ ap (list_any (bytes_eq other)) (added_old old key (sym (c.in_ok-new.ensures.new old c.requires) ∙ c.if-new.false))
