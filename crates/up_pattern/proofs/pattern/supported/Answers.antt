use Rattle.std.proofs.Common.{sym}
use Rattle.up_pattern.proofs.Matches.{class-now, class-later, class-none}
use Rattle.up_pattern.proofs.pattern.supported.Goals as goal

pub returns-then-is_class : goal.returns-then-is_class
returns-then-is_class c = class-now _ _ _ _ c.items.invariant.same c.in-Some.ensures.none (sym c.if-is_class.ensures)

pub items-preserved : goal.items-preserved
items-preserved c = record {
  same = class-later _ _ _ _ c.items.invariant.same c.in-Some.ensures.none (sym c.if-is_class.ensures);
  flat = c.in-Some.ensures.flat;
}

pub returns : goal.returns
returns c = class-none _ _ c.items.invariant.same c.in_default.ensures.none
