use Rattle.std.proofs.Common.{◌≡◌, None, sym, ◌∙◌, ap}
use Rattle.up_book.specs.Keys.{instance_place}
use Rattle.up_job.specs.declared.instance_key.InstanceKey.{InstanceKey}
use Rattle.up_model.specs.Instances.{instance_named}
use Rattle.up_model.specs.declared.who.Who.{Who}
use Rattle.up_text.specs.Bindings.{set_all}
use Rattle.up_cascade.proofs.Entries.{named_some, named_none}
use Rattle.up_cascade.proofs.KeyLemmas.{job_name}
use Rattle.up_cascade.proofs.Starting.{base-own, base-new}
use Rattle.up_cascade.proofs.environment.request_start_env.Goals as goal

pub returns-in_ok-append-in-Some : goal.returns-in_ok-append-in-Some
returns-in_ok-append-in-Some g c mode c' job s in_table at_hand =
    let config = c.args.setup.now in
    let who : Who = record { job = job.name; instance = c.args.name.now } in
    let named = job_name config c.args.index job in_table in
    let found = named_some {K = InstanceKey} (instance_place config c') c.in-Some.key (instance_named who c') (c.in-Some.ensures.place mode config c' job.name s named) in
    let own = c.in_ok-own-in-Some.ensures mode c' found.0 s found.2 in
    c.in_ok-append-in-Some.ensures.ok
    ∙ ap (λ base. set_all base c.args.vars.now) (own ∙ sym (base-own config who c' found.0 found.1))

pub returns-in-None : goal.returns-in-None
returns-in-None g c mode c' job s in_table at_hand =
    let config = c.args.setup.now in
    let who : Who = record { job = job.name; instance = c.args.name.now } in
    let named = job_name config c.args.index job in_table in
    let there = rw c.in-None.is at (c.find.ensures.place mode config c' job.name s named) in
    let none : instance_named who c' ≡ None = named_none (instance_place config c') (instance_named who c') there in
    at_hand ∙ ap (λ base. set_all base c.args.vars.now) (sym (base-new config who c' none))
