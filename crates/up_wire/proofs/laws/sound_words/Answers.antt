use Rattle.up_wire.proofs.Sound.{sound_words}
use Rattle.up_wire.proofs.laws.sound_words.Goals as goal

pub returns : goal.returns
returns c its wait name words alone waits = sound_words its wait name words alone waits
