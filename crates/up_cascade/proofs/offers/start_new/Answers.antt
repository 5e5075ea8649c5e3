use Rattle.std.proofs.Common.{◌≡◌, ◌∙◌, ◌∷◌, sym, length, nat_lt}
use Rattle.up_book.specs.Keys.{Stepping}
use Rattle.up_model.specs.Chronicle.{Chronicle, Made}
use Rattle.up_model.specs.Instances.{instances_of}
use Rattle.up_model.specs.Offers.{max_instances}
use Rattle.up_cascade.proofs.KeyLemmas.{job_name}
use Rattle.up_cascade.proofs.offers.start_new.Goals as goal

pub returns-in_ok-aim-clause-after : goal.returns-in_ok-aim-clause-after
returns-in_ok-aim-clause-after g c config c' places s in_table held none =
    let its = c.args.file.now.name in
    let d : Chronicle = Made c.args.file.now c.args.name.now ∷ c' in
    let room : c.has_room.result ≡ nat_lt (length (instances_of its c')) max_instances = c.has_room.ensures Stepping config c' its s (job_name config c.args.index c.args.file.now in_table) in
    rw (sym room ∙ c.if-has_room.true)
    (c.in_ok-aim.ensures.after config d (length c') places (c.in_ok-key.ensures.after config c' s in_table none) (c.in_ok-key.ensures.made config c' s in_table none)
    (c.in_ok-key.ensures.holders config c' c.args.holders places s in_table none held))

pub returns-in_ok-aim-clause-events : goal.returns-in_ok-aim-clause-events
returns-in_ok-aim-clause-events g c config c' places s in_table held none k j event =
    let its = c.args.file.now.name in
    let d : Chronicle = Made c.args.file.now c.args.name.now ∷ c' in
    let room : c.has_room.result ≡ nat_lt (length (instances_of its c')) max_instances = c.has_room.ensures Stepping config c' its s (job_name config c.args.index c.args.file.now in_table) in
    rw (sym room ∙ c.if-has_room.true)
    (c.in_ok-aim.ensures.events config d (length c') places (c.in_ok-key.ensures.after config c' s in_table none) (c.in_ok-key.ensures.made config c' s in_table none) (c.in_ok-key.ensures.holders config c' c.args.holders places s in_table none held) k j (c.in_ok-key.ensures.events config c' s in_table none k j event))
