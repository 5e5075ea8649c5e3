-- For the gate's time alone: with this answer a wrong body is refused sooner.
use Rattle.std.proofs.Common.{rules}
use Rattle.up_image.proofs.image_error.ImageError.name.Goals as goal

pub returns-in-ImageTooLarge : goal.returns-in-ImageTooLarge
returns-in-ImageTooLarge c = search rules
