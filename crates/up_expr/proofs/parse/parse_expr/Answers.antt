use Rattle.std.proofs.Common.{◌∙◌, ap, sym, Some, arith}
use Rattle.up_expr.proofs.Counting.{complete, few_nodes, kept_is, laid_memory, laid_writes, written, none_written}
use Rattle.up_expr.proofs.parse.parse_expr.Goals as goal

pub returns-then-operators-gt-MAX_OPERATORS-clause-refused : goal.returns-then-operators-gt-MAX_OPERATORS-clause-refused
returns-then-operators-gt-MAX_OPERATORS-clause-refused c = λ other tree writes. omega (arith, (complete c.args.tokens.now tree writes).1, c.operators.ensures, c.if-operators-gt-MAX_OPERATORS.true)

pub lay-requires : goal.lay-requires
lay-requires c =
    let read = c.in-Ok.ensures.read in
    few_nodes c.args.tokens.now c.in-Some.tree (written c.args.tokens.now c.in-Some.tree (read.2 ∙ ap Some (sym (kept_is c.in-Ok.kept c.in-Some.tree read.0 c.in-Some.is read.1))) (omega (arith, c.operators.ensures, c.if-operators-gt-MAX_OPERATORS.false)))

pub returns-in-Some-clause-tree : goal.returns-in-Some-clause-tree
returns-in-Some-clause-tree c =
    let read = c.in-Ok.ensures.read in
    laid_writes c.args.tokens.now c.in-Some.tree c.lay.result
    (written c.args.tokens.now c.in-Some.tree (read.2 ∙ ap Some (sym (kept_is c.in-Ok.kept c.in-Some.tree read.0 c.in-Some.is read.1))) (omega (arith, c.operators.ensures, c.if-operators-gt-MAX_OPERATORS.false)))
    c.lay.ensures.laid

pub returns-in-Some-clause-memory : goal.returns-in-Some-clause-memory
returns-in-Some-clause-memory c =
    let read = c.in-Ok.ensures.read in
    laid_memory c.lay.result (read.0, written c.args.tokens.now read.0 read.2 (omega (arith, c.operators.ensures, c.if-operators-gt-MAX_OPERATORS.false)))

pub returns-in-None-clause-memory : goal.returns-in-None-clause-memory
returns-in-None-clause-memory c = λ memory.
    let read = c.in-Ok.ensures.read in
    (read.0, written c.args.tokens.now read.0 read.2 (omega (arith, c.operators.ensures, c.if-operators-gt-MAX_OPERATORS.false)))

pub returns-in-Err-clause-refused : goal.returns-in-Err-clause-refused
returns-in-Err-clause-refused c = λ other tree writes. none_written c.args.tokens.now tree c.in-Err.ensures.refused writes
