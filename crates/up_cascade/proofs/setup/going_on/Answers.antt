use Rattle.std.proofs.Common.{Vec, Global, ◌≡◌, ◌∙◌, ◌+◌, ◌++◌, ◌∷◌, List, [], drop, sym, ap, subst, arith, append_assoc, append-nil}
use Rattle.std.proofs.lemmas.List.{drop_all}
use Rattle.up_cascade.proofs.KeyLemmas.{named_there}
use Rattle.up_cascade.proofs.LoadLemmas.{going_kept, going_dropped, order-without, order-startless, order-left, others-push}
use Rattle.up_cascade.specs.Naming.{name_of}
use Rattle.up_conf.specs.declared.job.JobDef.{JobDef}
use Rattle.up_image.specs.declared.job_file.JobFile.{JobFile}
use Rattle.up_job.specs.Named.{AreInOrder}
use Rattle.up_model.specs.Loads.{going_on, without_start}
use Rattle.up_cascade.proofs.setup.going_on.Goals.{then-goes_on+in_ok-without_start+in_ok-push, else-goes_on}
use Rattle.up_cascade.proofs.setup.going_on.Goals as goal

pub loop-index-init : goal.loop-index-init
loop-index-init g c = record {
  whole = λ mode config c' s are. ap (λ (going : List JobDef). going ++ going_on c.args.new.now c.args.old.now c') c.new-going.ensures.items;
  order = subst (λ (going : List JobDef). AreInOrder name_of (going ++ c.args.old.now)) (sym c.new-going.ensures.items) c.requires.old;
  others = rw c.new-going.ensures.items tt;
}

pub loop-index-preserved : goal.loop-index-preserved
loop-index-preserved g c = elim c.if-goes_on.branch [
  | then-goes_on+in_ok-without_start+in_ok-push w ↦
      let n = c.loop-index.index in
      let job = c.index-old-index.result in
      let within = c.loop-index-test.true in
      let here = c.index-old-index.is in
      let before = c.loop-index.invariant in
      let pushed : c.if-goes_on.going.items ≡ c.loop-index.going.items ++ without_start job ∷ [] = ap (λ (going : Vec JobFile Global). going.items) w.going-is ∙ w.in_ok-push.ensures.items ∙ ap (λ file. c.loop-index.going.items ++ file ∷ []) w.in_ok-without_start.ensures in
      record {
        whole = λ mode config c' s are.
            let named = named_there config c.args.old.now n job are within here in
            let goes = sym (c.goes_on.ensures.means mode config c' s named) ∙ w.if-goes_on.true in
            let rest = going_on c.args.new.now (drop (n + 1) c.args.old.now) c' in
            ap (λ (going : List JobDef). going ++ rest) pushed ∙ append_assoc c.loop-index.going.items (without_start job ∷ []) rest
            ∙ ap (λ left. c.loop-index.going.items ++ left) (sym (going_kept c.args.new.now c.args.old.now n job c' within here goes)) ∙ before.whole mode config c' s are;
        order = subst (λ (going : List JobDef). AreInOrder name_of (going ++ drop (n + 1) c.args.old.now)) (sym pushed)
            (order-startless c.loop-index.going.items job (drop (n + 1) c.args.old.now) (order-left c.loop-index.going.items c.args.old.now n job within here before.order));
        others = rw pushed (others-push c.args.new.now c.loop-index.going.items job before.others (c.goes_on.ensures.new w.if-goes_on.true));
      }
  | else-goes_on w ↦
      let n = c.loop-index.index in
      let job = c.index-old-index.result in
      let within = c.loop-index-test.true in
      let here = c.index-old-index.is in
      let before = c.loop-index.invariant in
      record {
        whole = λ mode config c' s are.
            let named = named_there config c.args.old.now n job are within here in
            let stays = sym (c.goes_on.ensures.means mode config c' s named) ∙ w.if-goes_on.false in
            rw w.going-is (ap (λ left. c.loop-index.going.items ++ left) (sym (going_dropped c.args.new.now c.args.old.now n job c' within here stays)) ∙ before.whole mode config c' s are);
        order = rw w.going-is (order-without c.loop-index.going.items job (drop (n + 1) c.args.old.now) (order-left c.loop-index.going.items c.args.old.now n job within here before.order));
        others = rw w.going-is before.others;
      }
]

pub returns : goal.returns
returns g c =
    let over : drop c.loop-index.index c.args.old.now ≡ [] = drop_all c.loop-index.index c.args.old.now (omega arith) in
    record {
      going = λ mode config c' s are. sym (append-nil c.loop-index.going.items) ∙ ap (λ js. c.loop-index.going.items ++ going_on c.args.new.now js c') (sym over) ∙ c.loop-index.invariant.whole mode config c' s are;
      order = subst (AreInOrder name_of) (ap (λ js. c.loop-index.going.items ++ js) over ∙ append-nil c.loop-index.going.items) c.loop-index.invariant.order;
      others = c.loop-index.invariant.others;
    }
