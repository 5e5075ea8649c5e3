use Rattle.std.proofs.Common.{◌∙◌, sym, ap, subst}
use Rattle.up_image.specs.Index.{IsAscending, named}
use Rattle.up_image.proofs.PlaceOrder.{ascending-in_order, named-in_order}
use Rattle.up_marks.specs.Naming.{Rising}
use Rattle.up_marks.proofs.NameLemmas.{rising_named}
use Rattle.up_marks.proofs.index.Index.of_places.Goals as goal

pub invariant_of-result : goal.invariant_of-result
invariant_of-result c = record {
  ascending = subst (λ xs. IsAscending xs) (sym c.in_ok-sort_places.ensures) (ascending-in_order c.args.places.items);
  rising = λ name. subst (λ xs. Rising 0 xs) (sym (ap (named name) c.in_ok-sort_places.ensures ∙ named-in_order name c.args.places.items)) (rising_named 0 name c.args.places.items c.requires);
}

pub returns : goal.returns
returns c = λ name. ap (named name) c.in_ok-sort_places.ensures ∙ named-in_order name c.args.places.items
