use Rattle.std.proofs.Common.{[], refl}
use Rattle.up_model.specs.Configuration.{started_with}
use Rattle.up_ledger.specs.Remembering.{StartsRemember}
use Rattle.up_book.specs.Views.{Places}
use Rattle.up_ledger.proofs.Beginning.{forgets-nothing}
use Rattle.up_book.proofs.Tables.{order-distinct}
use Rattle.up_ledger.proofs.NewTables.{starts-unused}
use Rattle.up_ledger.proofs.past.Past.new.Goals as goal

pub returns : goal.returns
returns c base =
    let jobs = c.args.files.now in
    let config = started_with base jobs in
    let starts : (places : Places) → StartsRemember places config [] c.in_ok-starts.starts.items jobs = λ places. c.in_ok-starts.ensures places config in
    forgets-nothing _ config (order-distinct jobs c.requires) c.in_ok-instances.ensures starts
    (λ id. starts-unused config c.in_ok-starts.starts.items jobs id starts) c.new.ensures refl
