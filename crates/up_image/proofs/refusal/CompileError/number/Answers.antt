-- For the gate's time alone: with this answer a wrong body is refused sooner.
use Rattle.std.proofs.Common.{rules}
use Rattle.up_image.proofs.refusal.CompileError.number.Goals as goal

pub returns-in-SameName : goal.returns-in-SameName
returns-in-SameName c = search rules
