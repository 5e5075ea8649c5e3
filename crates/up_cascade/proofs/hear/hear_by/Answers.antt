use Rattle.std.proofs.Common.{◌≡◌, ◌∙◌, ◌++◌, Some, ap}
use Rattle.up_book.specs.Keys.{instance_at}
use Rattle.up_cascade.specs.Settling.{settle_one}
use Rattle.up_cascade.proofs.Hearing.{stop-lists, lists-then}
use Rattle.up_cascade.proofs.KeyLemmas.{placed, file-there}
use Rattle.up_cascade.proofs.Positions.{same-instance}
use Rattle.up_model.specs.Chronicle.{Chronicle}
use Rattle.up_model.specs.Offers.{stop_offer}
use Rattle.up_cascade.proofs.hear.hear_by.Goals as goal

pub returns-clause-after : goal.returns-clause-after
returns-clause-after g c c' its e s there event same =
    let config = c.args.setup.now in
    let file = file-there config c' c.args.key its there ∙ ap Some same in
    let d : Chronicle = stop_offer config c.args.file.now its.place e c' ++ c' in
    let there_d : instance_at config d c.args.key ≡ Some its = same-instance config c' d c.args.key (stop-lists config c.args.file.now its.place e c') ∙ there in
    (rw c.job.ensures at c.in_ok-stays.ensures.after) d its (c.in_ok-offer_stop.ensures.after c' its.place e s (placed config c' c.args.key its there) file event) there_d same

pub returns-clause-lists : goal.returns-clause-lists
returns-clause-lists g c c' its e s there event same =
    let config = c.args.setup.now in
    let file = file-there config c' c.args.key its there ∙ ap Some same in
    let d : Chronicle = stop_offer config c.args.file.now its.place e c' ++ c' in
    let there_d : instance_at config d c.args.key ≡ Some its = same-instance config c' d c.args.key (stop-lists config c.args.file.now its.place e c') ∙ there in
    lists-then c.in_ok-stays.stays its c' d (settle_one 5 c.args.file.now its d) (stop-lists config c.args.file.now its.place e c')
    ((rw c.job.ensures at c.in_ok-stays.ensures.lists) d its (c.in_ok-offer_stop.ensures.after c' its.place e s (placed config c' c.args.key its there) file event) there_d same)

pub returns-clause-events : goal.returns-clause-events
returns-clause-events g c c' its e s there event same k j known =
    let config = c.args.setup.now in
    let file = file-there config c' c.args.key its there ∙ ap Some same in
    let d : Chronicle = stop_offer config c.args.file.now its.place e c' ++ c' in
    let place = placed config c' c.args.key its there in
    let there_d : instance_at config d c.args.key ≡ Some its = same-instance config c' d c.args.key (stop-lists config c.args.file.now its.place e c') ∙ there in
    (rw c.job.ensures at c.in_ok-stays.ensures.events) d its (c.in_ok-offer_stop.ensures.after c' its.place e s place file event) there_d same k j (c.in_ok-offer_stop.ensures.events c' its.place e s place file event k j known)
