use Rattle.up_wire.proofs.Cuts.{frames_append}
use Rattle.up_wire.proofs.laws.pieces.Goals as goal

pub returns : goal.returns
returns c bytes more middle rest first second h k = frames_append bytes more middle rest first second h k
