use Rattle.std.proofs.Common.{◌≡◌, ◌∙◌, None, sym, ap}
use Rattle.up_job.specs.declared.instance_key.InstanceKey.{InstanceKey}
use Rattle.up_cascade.proofs.Entries.{named_some, named_none}
use Rattle.up_book.specs.Keys.{instance_place}
use Rattle.up_engine.specs.Requests.{answer_of}
use Rattle.up_model.specs.Commands.{status_at, Told}
use Rattle.up_model.specs.Instances.{instance_named}
use Rattle.up_model.specs.Values.{Bytes}
use Rattle.up_engine.proofs.status.status_at.Goals as goal

pub returns-in_ok-answer-in-None : goal.returns-in_ok-answer-in-None
returns-in_ok-answer-in-None g c mode config c' s named =
    let there = rw c.as_str.ensures at (c.find.ensures.place mode config c' c.args.who.now.job s named) in
    let none : instance_named c.args.who.now c' ≡ None =
    named_none (instance_place config c') (instance_named c.args.who.now c') (rw c.in-None.is at there) in
    c.in_ok-answer-in-None.ensures c' ∙ ap (λ o. answer_of (status_at c.args.job.now c.args.who.now o c')) (sym none)

pub returns-in_ok-text-in-Some : goal.returns-in_ok-text-in-Some
returns-in_ok-text-in-Some g c mode config c' s named =
    let who = c.args.who.now in
    let there = rw c.as_str.ensures at (c.in-Some.ensures.place mode config c' who.job s named) in
    let found = named_some {K = InstanceKey} (instance_place config c') c.in-Some.key (instance_named who c') there in
    rw found.1 (ap (λ (text : Bytes). answer_of (Told text)) (c.in_ok-text-in-Some.ensures mode config c' found.0 s found.2))
