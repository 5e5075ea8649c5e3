use Rattle.std.proofs.Common.{false, ◌∙◌, sym, ap, subst, map}
use Rattle.up_image.specs.Index.{IsAscending, named, places_in}
use Rattle.up_image.proofs.PlaceOrder.{ascending-in_order, named-in_order}
use Rattle.up_marks.proofs.NameLemmas.{node_of, naming_places_in}
use Rattle.up_marks.proofs.index.stop_leaves.Goals as goal

pub run_of-requires : goal.run_of-requires
run_of-requires c = subst (λ xs. IsAscending xs) (sym c.stops.ensures) (ascending-in_order (places_in 0 false c.args.file.now.stop_on))

pub returns : goal.returns
returns c =
    ap (map node_of) (c.run_of.ensures ∙ ap (named c.args.name.now) c.stops.ensures ∙ named-in_order c.args.name.now (places_in 0 false c.args.file.now.stop_on))
    ∙ naming_places_in 0 false c.args.file.now.stop_on c.args.name.now
