use Rattle.std.proofs.Common.{◌≡◌, ◌∷◌, None}
use Rattle.up_job.specs.declared.instance_key.InstanceKey.{InstanceKey}
use Rattle.up_book.specs.Keys.{Stepping, instance_place}
use Rattle.up_cascade.proofs.Entries.{named_some, named_none}
use Rattle.up_model.specs.Chronicle.{Chronicle, Given}
use Rattle.up_model.specs.Instances.{instance_named}
use Rattle.up_engine.proofs.requests.reload_who.Goals as goal

pub returns-in_ok-reload_found-in-Some : goal.returns-in_ok-reload_found-in-Some
returns-in_ok-reload_found-in-Some g c config named c' input s =
    let d : Chronicle = Given input ∷ c' in
    let who = c.args.who.now in
    let there = rw c.as_str.ensures at (c.in-Some.ensures.place Stepping config d who.job s named) in
    let found = named_some {K = InstanceKey} (instance_place config d) c.in-Some.key (instance_named who d) there in
    rw found.1 (c.in_ok-reload_found-in-Some.ensures config c' input found.0 s found.2)

pub returns-in_ok-refuse-in-None : goal.returns-in_ok-refuse-in-None
returns-in_ok-refuse-in-None g c config named c' input s =
    let d : Chronicle = Given input ∷ c' in
    let who = c.args.who.now in
    let there = rw c.as_str.ensures at (c.find.ensures.place Stepping config d who.job s named) in
    let none : instance_named who d ≡ None = named_none (instance_place config d) (instance_named who d) (rw c.in-None.is at there) in
    rw (none, ← c.in_ok-text-in-None.ensures) (c.in_ok-refuse-in-None.ensures config c' input s)
