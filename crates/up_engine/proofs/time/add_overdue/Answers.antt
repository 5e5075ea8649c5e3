use Rattle.std.proofs.Common.{◌≡◌, ◌∙◌, ◌+◌, ◌++◌, ◌∷◌, [], false, Some, List, ℕ, map, drop, sym, ap, arith, refl, add-one, append_assoc, append-nil}
use Rattle.std.proofs.lemmas.List.{drop_all}
use Rattle.up_job.specs.declared.instance_key.InstanceKey.{InstanceKey}
use Rattle.up_engine.proofs.ClockLemmas.{none_due}
use Rattle.up_cascade.proofs.KeyLemmas.{there, file-there}
use Rattle.up_model.specs.Clock.{kill_due, overdue}
use Rattle.up_model.specs.Instances.{instances_of}
use Rattle.up_model.specs.Predicates.{entries_if}
use Rattle.up_engine.proofs.time.add_overdue.Goals as goal

pub loop-at-init : goal.loop-at-init
loop-at-init g c mode config c' name done s named start = (done, start, refl)

pub loop-at-preserved : goal.loop-at-preserved
loop-at-preserved g c mode config c' name done s named start =
    let n = c.loop-at.at in
    let key : InstanceKey = record { job = c.args.index; at = n } in
    let its = instances_of name c' in
    let count = c.count-at-end.ensures mode config c' name s named in
    let it = there config c' key name named (omega (arith, count)) in
    let i = it.instance.place in
    let file = file-there config c' key it.instance it.is in
    let old = c.loop-at.invariant mode config c' name done s named start in
    let one : List ℕ = entries_if (kill_due it.instance.file i c') (i ∷ []) in
    let left : overdue (drop n its) c' ≡ one ++ overdue (drop (n + 1) its) c' = rw add-one (ap (λ is. overdue is c') it.rest) in (
      old.0 ++ one,
      c.in_ok-add_if_due.ensures.after mode config c' i it.instance.file s it.place file old.0 old.1,
      append_assoc old.0 one (overdue (drop (n + 1) its) c') ∙ ap (λ rest. old.0 ++ rest) (sym left) ∙ old.2,
    )

pub returns-clause-after : goal.returns-clause-after
returns-clause-after g c mode config c' name done s named start =
    let n = c.loop-at.at in
    let its = instances_of name c' in
    let count = c.count-at-end.ensures mode config c' name s named in
    let over : drop n its ≡ [] = drop_all n its (omega (arith, count)) in
    let old = c.loop-at.invariant mode config c' name done s named start in
    old.1 ∙ ap (map Some) (sym (append-nil old.0) ∙ ap (λ is. old.0 ++ overdue is c') (sym over) ∙ old.2)

pub returns-in_err-add_if_due-clause-free : goal.returns-in_err-add_if_due-clause-free
returns-in_err-add_if_due-clause-free g c mode config c' name s named none =
    let n = c.loop-at.at in
    let key : InstanceKey = record { job = c.args.index; at = n } in
    let its = instances_of name c' in
    let count = c.count-at-end.ensures mode config c' name s named in
    let it = there config c' key name named (omega (arith, count)) in
    let i = it.instance.place in
    let file = file-there config c' key it.instance it.is in
    let due : kill_due it.instance.file i c' ≡ false = none_due config its n it.instance _ c' none it.rest in
    let never = c.in_err-add_if_due.ensures.free mode config c' i it.instance.file s it.place file due in
    absurd cc
