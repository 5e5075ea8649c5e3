use Rattle.std.proofs.Common.{◌≡◌, ◌∙◌, [], refl, ap, subst, sym}
use Rattle.up_book.specs.Keys.{Resting}
use Rattle.up_ledger.specs.Ledgers.{Stands}
use Rattle.up_model.specs.Configuration.{Configuration, started_with}
use Rattle.up_engine.proofs.Untrue.{rest-first}
use Rattle.up_engine.proofs.engine.Engine.new.Goals as goal

pub invariant_of-result : goal.invariant_of-result
invariant_of-result c =
    let jobs = c.jobs.ensures ∙ ap (λ (config : Configuration). config.jobs) c.in_ok-setup.ensures in
    let same : started_with c.args.base c.jobs.result.now ≡ c.in_ok-setup.setup = ap (started_with c.args.base) jobs ∙ sym c.in_ok-setup.ensures in
    record {
      sound = λ up. ∣ (c.in_ok-setup.setup, [], refl, subst (λ (config : Configuration). Stands c.in_ok-book.book Resting config []) same (c.in_ok-book.ensures c.args.base), rest-first c.in_ok-setup.setup) ∣₁;
    }

pub returns : goal.returns
returns c =
    let jobs = c.jobs.ensures ∙ ap (λ (config : Configuration). config.jobs) c.in_ok-setup.ensures in
    record {
      up = refl;
      setup = c.in_ok-setup.ensures;
      past = subst (λ (config : Configuration). Stands c.in_ok-book.book Resting config []) (ap (started_with c.args.base) jobs) (c.in_ok-book.ensures c.args.base);
      rest = rest-first _;
    }
