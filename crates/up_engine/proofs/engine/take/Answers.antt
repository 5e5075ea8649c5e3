use Rattle.std.proofs.Common.{◌≡◌, ◌∙◌, sym, subst, ap, true, false}
use Rattle.up_book.specs.Keys.{Stepping, Resting}
use Rattle.up_engine.proofs.Loading.{unloaded-after, unloaded-force, loaded-whole, speaks-load}
use Rattle.up_cascade.specs.Settling.{after_in}
use Rattle.up_model.specs.Answers.{after}
use Rattle.up_model.specs.Loads.{in_force, is_load}
use Rattle.up_engine.proofs.engine.take.Goals as goal

pub returns-in_ok-load-clause-setup : goal.returns-in_ok-load-clause-setup
returns-in_ok-load-clause-setup g c start c' same s rest =
    let given = c.args.given in
    let config = c.args.setup.now in
    let load : is_load given ≡ true = sym c.is_load.ensures ∙ c.if-is_load.true in
    let taken = c.begin_step.ensures.after config c' s (speaks-load config given c' load) in
    let whole = loaded-whole start config c' given same load (λ name none. g.met.B.Book.known c.args.book.now Resting config c' name s none) rest.rested in
    c.in_ok-load.ensures.setup start c' same taken ∙ ap (in_force start) whole

pub returns-in_ok-load-clause-book : goal.returns-in_ok-load-clause-book
returns-in_ok-load-clause-book g c start c' same s rest =
    let given = c.args.given in
    let config = c.args.setup.now in
    let load : is_load given ≡ true = sym c.is_load.ensures ∙ c.if-is_load.true in
    let taken = c.begin_step.ensures.after config c' s (speaks-load config given c' load) in
    let whole = loaded-whole start config c' given same load (λ name none. g.met.B.Book.known c.args.book.now Resting config c' name s none) rest.rested in
    subst (g.B.Book.stands c.load.new.book Stepping c.load.new.setup) whole (c.in_ok-load.ensures.book c' taken)

pub returns-in_ok-run_step-clause-setup : goal.returns-in_ok-run_step-clause-setup
returns-in_ok-run_step-clause-setup g c start c' same s rest =
    let load : is_load c.args.given ≡ false = sym c.is_load.ensures ∙ c.if-is_load.false in
    same ∙ unloaded-force start c' c.args.given load

pub returns-in_ok-run_step-clause-book : goal.returns-in_ok-run_step-clause-book
returns-in_ok-run_step-clause-book g c start c' same s rest =
    let given = c.args.given in
    let config = c.args.setup.now in
    let load : is_load given ≡ false = sym c.is_load.ensures ∙ c.if-is_load.false in
    let whole : after_in config c' given ≡ after start c' given = ap (λ conf. after_in conf c' given) same ∙ unloaded-after start c' given load in
    subst (g.B.Book.stands c.run_step.new.book Stepping config) whole (c.in_ok-run_step.ensures.after c' s rest)
