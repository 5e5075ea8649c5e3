use Rattle.std.proofs.Common.{◌∙◌, sym}
use Rattle.up_ledger.proofs.Acting.{given-unheld}
use Rattle.up_ledger.proofs.Outgoing.{given-out}
use Rattle.up_ledger.proofs.Requested.{on-given}
use Rattle.up_ledger.proofs.step.Step.new.Goals as goal

pub returns : goal.returns
returns c config c' older = record {
  outputs = c.new.ensures.items ∙ sym (given-out config c' c.args.given.now);
  asked = c.asked_in.ensures;
  on = on-given config c' c.args.given.now;
  unheld = given-unheld c.args.given.now c' older;
}
