use Rattle.up_ledger.proofs.NewTables.{indexed}
use Rattle.up_ledger.proofs.ledger.index_of.Goals as goal

pub returns : goal.returns
returns c = record {
  by_event = indexed c.args.files.now c.in_ok-index.index.by_event c.in_ok-index.ensures.leaves;
  by_value = c.in_ok-index.ensures.finds;
}
