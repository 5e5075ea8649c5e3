use Rattle.std.proofs.Common.{◌≡◌, ◌++◌, drop}
use Rattle.up_ledger.specs.Replying.{replies_to}
use Rattle.up_ledger.proofs.replies.reply_to_all.Given as goal

-- with the replies to those that are left it is all
abbrev pub invariant-loop-holder : goal.invariant-loop-holder
invariant-loop-holder l = l.outputs.items ++ replies_to (drop l.holder-index l.holders) l.failed l.told ≡ l.fn.outputs.items ++ replies_to l.holders l.failed l.told
