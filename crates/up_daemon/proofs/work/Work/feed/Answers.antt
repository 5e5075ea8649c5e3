use Rattle.std.proofs.Common.{◌≡◌, ◌++◌, ◌∷◌, [], reverse, refl}
use Rattle.up_engine.specs.Stands.{left_of}
use Rattle.up_engine.proofs.RunLemmas.{after_all_push}
use Rattle.up_model.specs.Answers.{after_all}
use Rattle.up_daemon.proofs.Endings.{fed_fewer}
use Rattle.up_daemon.proofs.work.Work.feed.Goals as goal

pub returns-clause-fed : goal.returns-clause-fed
returns-clause-fed c =
    let before = c.args.self.now in
    let fed : c.add.new.self.fed.items ≡ before.log.fed.items ++ c.args.given ∷ [] = rw (c.in_ok-add.ensures.fed, c.in_ok-told.ensures) refl in
    record {
      outputs = c.in_ok-outputs.outputs.items;
      fed = fed;
      gave = c.in_ok-add.ensures.gave;
      left = rw (c.in_ok-push_copies.ensures, c.deref.ensures.value) refl;
      clients = refl;
      next = refl;
      answered = λ config chronicle stands.
          let step = c.in_ok-outputs.ensures.answers config (after_all config chronicle before.log.fed.items) stands in
          (step.0, rw (fed, after_all_push config chronicle before.log.fed.items c.args.given) step.1);
    }

pub returns-clause-left : goal.returns-clause-left
returns-clause-left c calm =
    rw (c.in_ok-push_copies.ensures, c.deref.ensures.value) (fed_fewer (left_of c.outputs_of.new.engine) (left_of c.args.self.now.engine) c.in_ok-outputs.outputs.items (reverse c.args.stack.now.items) (c.in_ok-outputs.ensures.left calm))
