use Rattle.std.proofs.Common.{◌≡◌, None}
use Rattle.up_job.specs.declared.instance_key.InstanceKey.{InstanceKey}
use Rattle.up_book.specs.Keys.{instance_place}
use Rattle.up_cascade.proofs.Entries.{named_some, named_none}
use Rattle.up_model.specs.Instances.{instance_named}
use Rattle.up_engine.proofs.requests.start_refusal.Goals as goal

pub returns-in_ok-text-in-Some : goal.returns-in_ok-text-in-Some
returns-in_ok-text-in-Some g c mode config c' s named places job environment =
    let who = c.args.who.now in
    let there = rw c.as_str.ensures at (c.in-Some.ensures.place mode config c' who.job s named) in
    let found = named_some {K = InstanceKey} (instance_place config c') c.in-Some.key (instance_named who c') there in
    rw found.1 (c.in_ok-text-in-Some.ensures mode config c' found.0 s found.2 places job environment)

pub returns-in_ok-text-in-None : goal.returns-in_ok-text-in-None
returns-in_ok-text-in-None g c mode config c' s named places job environment =
    let who = c.args.who.now in
    let there = rw c.as_str.ensures at (c.find.ensures.place mode config c' who.job s named) in
    let none : instance_named who c' ≡ None = named_none (instance_place config c') (instance_named who c') (rw c.in-None.is at there) in
    rw none (c.in_ok-text-in-None.ensures mode config c' s named places job environment)
