use Rattle.std.proofs.Common.{◌∙◌, sym, ap}
use Rattle.std.specs.Option.{option_copied}
use Rattle.up_book.proofs.orders.order_of.Goals as goal

pub returns-in_ok-order-in-Some : goal.returns-in_ok-order-in-Some
returns-in_ok-order-in-Some c places = c.in_ok-order-in-Some.ensures places (sym c.action_of.ensures ∙ ap option_copied c.in-Some.is)
