use Rattle.std.proofs.Common.{◌≡◌, Some, take}
use Rattle.std.proofs.lemmas.List.Sums.{prefix_len-le-length}
use Rattle.up_expr.specs.Trees.{One}
use Rattle.up_expr.specs.Values.{leaf_of}
use Rattle.up_expr.proofs.Going.{front_plain, leaf_count, leaf_read, leaf_refused}
use Rattle.up_expr.proofs.parse.read_operand.Goals as goal

pub split_at-requires : goal.split_at-requires
split_at-requires c = rw c.leaf_len.ensures (prefix_len-le-length _ c.args.tokens.now)

pub keep_leaf-requires : goal.keep_leaf-requires
keep_leaf-requires c = rw (c.split_at.ensures.front, c.leaf_len.ensures) (front_plain c.args.tokens.now)

pub returns-in-Ok-clause-read : goal.returns-in-Ok-clause-read
returns-in-Ok-clause-read c =
    let read = c.in-Ok.ensures.read in (
      One read.0,
      read.2,
      λ outer left.
          let own : leaf_of (take (leaf_count c.args.tokens.now) c.args.tokens.now) ≡ Some read.0 = rw (c.split_at.ensures.front, c.leaf_len.ensures) at read.1 in
          rw (c.split_at.ensures.back, c.leaf_len.ensures) (leaf_read c.args.tokens.now outer left read.0 own),
    )

pub returns-in-Err-clause-refused : goal.returns-in-Err-clause-refused
returns-in-Err-clause-refused c = λ outer left.
    leaf_refused c.args.tokens.now outer left c.requires (rw (c.split_at.ensures.front, c.leaf_len.ensures) at c.in-Err.ensures.refused)
