use Rattle.std.proofs.Common.{◌≤◌, ◌-◌, length, string_bytes}
use denote.Shadow.{shadow}
use denote.Text.{Utf8}
use Rattle.up_text.specs.Expansion.{expand, signs, texts_of}
use Rattle.up_text.proofs.Written.{Remains}
use Rattle.up_text.proofs.expansion.write_text.Given as goal

abbrev pub invariant-pieces : goal.invariant-pieces
invariant-pieces l = record {
  is_text : shadow (Utf8 l.rest);
  shallow : l.depth ≤ 16;
  remains : Remains l.fn.env (expand l.fn.text l.fn.env) (string_bytes l.out) (l.depth - l.kept) (texts_of l.depth (signs 0 l.rest));
}

abbrev pub decreases-pieces : goal.decreases-pieces
decreases-pieces l = length l.rest
