use Rattle.std.proofs.Common.{◌≡◌, ◌≤◌, is_some, length}
use denote.Shadow.{shadow}
use denote.Text.{Utf8}
use Rattle.up_text.specs.Expansion.{is_expandable, signs, texts_of}
use Rattle.up_text.proofs.expansion.is_expandable.Given as goal

abbrev pub invariant-pieces : goal.invariant-pieces
invariant-pieces l = record {
  is_text : shadow (Utf8 l.rest);
  shallow : l.depth ≤ 16;
  same : is_some (texts_of l.depth (signs 0 l.rest)) ≡ is_expandable l.fn.text;
}

abbrev pub decreases-pieces : goal.decreases-pieces
decreases-pieces l = length l.rest
