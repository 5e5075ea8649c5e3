use Rattle.std.proofs.Common.{◌≡◌, ◌∙◌, ◌+◌, ◌++◌, ◌∷◌, [], drop, sym, ap, arith, refl, add-one, append_assoc, append-nil}
use Rattle.std.proofs.lemmas.List.{drop_all}
use Rattle.up_job.specs.declared.instance_key.InstanceKey.{InstanceKey}
use Rattle.up_cascade.proofs.KeyLemmas.{there}
use Rattle.up_model.specs.Commands.{statuses}
use Rattle.up_model.specs.Instances.{instances_of}
use Rattle.up_model.specs.Replies.{status_of}
use Rattle.up_engine.proofs.status.add_statuses.Goals as goal

pub loop-at-init : goal.loop-at-init
loop-at-init g c mode config c' its s named = refl

pub loop-at-preserved : goal.loop-at-preserved
loop-at-preserved g c mode config c' its s named =
    let n = c.loop-at.at in
    let key : InstanceKey = record { job = c.args.job; at = n } in
    let all = instances_of its c' in
    let count = c.count-at-end.ensures mode config c' its s named in
    let it = there config c' key its named (omega (arith, count)) in
    let left : statuses (drop n all) c' ≡ status_of it.instance.place c' ∷ statuses (drop (n + 1) all) c' = rw add-one (ap (λ is. statuses is c') it.rest) in
    ap (λ lines. lines ++ statuses (drop (n + 1) all) c') (c.in_ok-push_status.ensures mode config c' it.instance.place s it.place)
    ∙ append_assoc c.loop-at.lines.items (status_of it.instance.place c' ∷ []) (statuses (drop (n + 1) all) c')
    ∙ ap (λ rest. c.loop-at.lines.items ++ rest) (sym left)
    ∙ c.loop-at.invariant mode config c' its s named

pub returns : goal.returns
returns g c mode config c' its s named =
    let n = c.loop-at.at in
    let all = instances_of its c' in
    let count = c.count-at-end.ensures mode config c' its s named in
    let over : drop n all ≡ [] = drop_all n all (omega (arith, count)) in
    sym (append-nil c.loop-at.lines.items) ∙ ap (λ is. c.loop-at.lines.items ++ statuses is c') (sym over) ∙ c.loop-at.invariant mode config c' its s named
