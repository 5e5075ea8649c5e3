use Rattle.std.proofs.Common.{rules}
use Rattle.up_value.specs.Names.{is_key_byte}
use Rattle.up_value.proofs.env.is_key_byte.Goals as goal

pub returns-in_default-2 : goal.returns-in_default-2
unfolding is_key_byte
returns-in_default-2 c = search rules
