use Rattle.up_pattern.proofs.PatternLaws.{literal-supported, literal-glob}
use Rattle.up_pattern.proofs.pattern.laws.literal.Goals as goal

pub returns-clause-supported : goal.returns-clause-supported
returns-clause-supported c = literal-supported

pub returns-clause-itself : goal.returns-clause-itself
returns-clause-itself c = literal-glob
