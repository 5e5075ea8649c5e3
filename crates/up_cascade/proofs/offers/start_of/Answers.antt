use Rattle.std.proofs.Common.{◌≡◌, None}
use Rattle.up_book.specs.Keys.{Stepping, instance_place}
use Rattle.up_model.specs.declared.who.Who.{Who}
use Rattle.up_job.specs.declared.instance_key.InstanceKey.{InstanceKey}
use Rattle.up_model.specs.Instances.{instance_named}
use Rattle.up_cascade.proofs.Entries.{named_some, named_none}
use Rattle.up_cascade.proofs.KeyLemmas.{job_name}
use Rattle.up_cascade.proofs.offers.start_of.Goals as goal

pub returns-in_ok-start_old-in-Some-clause-after : goal.returns-in_ok-start_old-in-Some-clause-after
returns-in_ok-start_old-in-Some-clause-after g c config c' places s in_table known =
    let its = c.args.file.now.name in
    let named = job_name config c.args.index c.args.file.now in_table in
    let who : Who = record { job = its; instance = c.args.name.now } in
    let found = named_some {K = InstanceKey} (instance_place config c') c.in-Some.key _ (c.in-Some.ensures.place Stepping config c' its s named) in
    rw found.1 (c.in_ok-start_old-in-Some.ensures.after config c.args.file.now who c' found.0 places s found.2 known)

pub returns-in_ok-start_new-in-None-clause-after : goal.returns-in_ok-start_new-in-None-clause-after
returns-in_ok-start_new-in-None-clause-after g c config c' places s in_table known =
    let its = c.args.file.now.name in
    let named = job_name config c.args.index c.args.file.now in_table in
    let who : Who = record { job = its; instance = c.args.name.now } in
    let there = rw c.in-None.is at (c.find.ensures.place Stepping config c' its s named) in
    let none : instance_named who c' ≡ None = named_none (instance_place config c') (instance_named who c') there in
    rw none (c.in_ok-start_new-in-None.ensures.after config c' places s in_table known none)

pub returns-in_ok-start_old-in-Some-clause-events : goal.returns-in_ok-start_old-in-Some-clause-events
returns-in_ok-start_old-in-Some-clause-events g c config c' places s in_table known k j event =
    let its = c.args.file.now.name in
    let named = job_name config c.args.index c.args.file.now in_table in
    let who : Who = record { job = its; instance = c.args.name.now } in
    let found = named_some {K = InstanceKey} (instance_place config c') c.in-Some.key _ (c.in-Some.ensures.place Stepping config c' its s named) in
    rw found.1 (c.in_ok-start_old-in-Some.ensures.events config c.args.file.now who c' found.0 places s found.2 known k j event)

pub returns-in_ok-start_new-in-None-clause-events : goal.returns-in_ok-start_new-in-None-clause-events
returns-in_ok-start_new-in-None-clause-events g c config c' places s in_table known k j event =
    let its = c.args.file.now.name in
    let named = job_name config c.args.index c.args.file.now in_table in
    let who : Who = record { job = its; instance = c.args.name.now } in
    let there = rw c.in-None.is at (c.find.ensures.place Stepping config c' its s named) in
    let none : instance_named who c' ≡ None = named_none (instance_place config c') (instance_named who c') there in
    rw none (c.in_ok-start_new-in-None.ensures.events config c' places s in_table known none k j event)
