use Rattle.up_stanza.proofs.Parsing.{parse_lacks, parse_read, parse_refused}
use Rattle.up_stanza.proofs.expression.parse.Goals as goal

pub returns-in-Ok-clause-tree : goal.returns-in-Ok-clause-tree
returns-in-Ok-clause-tree c = parse_read c.args.tokens.now c.in-Ok.tree c.in-Ok.ensures.tree

pub returns-then-is_memory-clause-memory : goal.returns-then-is_memory-clause-memory
returns-then-is_memory-clause-memory c = parse_lacks c.args.tokens.now (c.in-Err.ensures.memory (rw c.if-is_memory.true at c.is_memory.ensures))

pub returns-else-is_memory-clause-tree : goal.returns-else-is_memory-clause-tree
returns-else-is_memory-clause-tree c =
    let other = rw c.if-is_memory.false at c.is_memory.ensures in
    parse_refused c.args.tokens.now c.in-Err.fault other c.in-Err.ensures.refused
