use Rattle.std.proofs.Common.{ℕ, ap, sym, option_map, Some}
use Rattle.up_model.specs.Instances.{place_named}
use Rattle.up_engine.proofs.due.find.Goals as goal

pub returns-in-None : goal.returns-in-None
returns-in-None g c mode c' s =
    let who = c.args.who.now in
    let called = c.as_str.ensures.text in
    let none = rw called at c.in-None.ensures.none in
    let known = g.met.B.Book.known c.args.book.now mode c.args.setup.now c' who.job s none in
    ap (λ its. option_map (λ (i : ℕ). Some i) (place_named who.instance its)) (sym known)
