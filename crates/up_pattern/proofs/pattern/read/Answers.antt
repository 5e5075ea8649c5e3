use Rattle.std.proofs.Common.{◌≡◌, sym}
use Rattle.up_pattern.specs.Pattern.{symbols, item_of, lone_item}
use Rattle.up_pattern.proofs.ItemReading.{reading-set, reading-lone, item-lone, flat-first, end-set, end-lone}
use Rattle.up_pattern.proofs.pattern.read.Goals as goal
use Rattle.up_pattern.proofs.pattern.read.Goals.{else-ahead-via-then-ahead+else-is_open, else-ahead-via-else-ahead}

pub returns-then-is_open-clause-none : goal.returns-then-is_open-clause-none
returns-then-is_open-clause-none c = reading-set _ _ _ _ c.in_ok-symbol.ensures.0 (sym c.if-is_open.ensures) c.read_set.ensures

pub returns-then-is_open-clause-end : goal.returns-then-is_open-clause-end
returns-then-is_open-clause-end c = end-set _ _ _ _ c.in_ok-symbol.ensures.0 c.read_set.ensures

pub returns-clause-none : goal.returns-clause-none
returns-clause-none c =
    let symbol = c.in_ok-symbol.symbol in
    let rest = symbols c.in_ok-symbol.rest.now in
    let lone : item_of symbol rest ≡ lone_item symbol =
    elim c.else-ahead.branch [
      | else-ahead-via-then-ahead+else-is_open w ↦ item-lone symbol rest (sym w.if-is_open.ensures)
      | else-ahead-via-else-ahead w ↦ (flat-first _ _ _ c.in_ok-symbol.ensures.0 (c.requires w.if-ahead.false)).0
    ] in
    reading-lone _ _ _ _ c.in_ok-symbol.ensures.0 c.lone_part.ensures lone

pub returns-clause-flat : goal.returns-clause-flat
returns-clause-flat c = λ none. (flat-first _ _ _ c.in_ok-symbol.ensures.0 (c.requires none)).1

pub returns-clause-end : goal.returns-clause-end
returns-clause-end c = end-lone _ _ _ c.in_ok-symbol.ensures.0
