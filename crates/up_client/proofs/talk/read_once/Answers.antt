use Rattle.std.proofs.lemmas.Result.{IfOk-weaker}
use Rattle.up_client.proofs.Hearing.{eaten, heard_on}
use Rattle.up_client.proofs.talk.read_once.Goals as goal

pub returns-in-Ok : goal.returns-in-Ok
returns-in-Ok g c bytes known none =
    let ate = eaten _ _ bytes _ known c.in-Ok.ensures.bytes.0 in
    let took = c.take.ensures none in
    IfOk-weaker c.take.result _ _ (λ found h. (ate.0, ate.1, h.0, heard_on c.args.feed.now.rest bytes _ ate.0 c.take.new.feed.rest found h.1 ate.2)) took
