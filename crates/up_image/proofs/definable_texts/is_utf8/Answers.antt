use Rattle.std.proofs.Common.{sym}
use Rattle.up_image.proofs.Utf8.{is_text}
use Rattle.up_image.proofs.definable_texts.is_utf8.Goals as goal

pub returns : goal.returns
returns c = sym (is_text c.args.text.now c.utf8.text)
