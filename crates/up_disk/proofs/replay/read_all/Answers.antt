use Rattle.std.proofs.Common.{◌≡◌, ap, sym}
use Rattle.up_disk.proofs.Reading.{read_front}
use Rattle.up_disk.proofs.replay.read_all.Goals as goal

pub returns : goal.returns
returns g c =
    let inner : c.take-limited.result.inner.now ≡ c.args.reader.now = ap (λ r. r.now) c.take-limited.ensures.inner in
    rw (sym inner) (read_front (g.R.Read.remaining c.take-limited.result.inner.now.inner) _ _ _ c.new-bytes.ensures.items c.take-limited.ensures.limit c.in_ok-read_to_end.ensures.bytes)
