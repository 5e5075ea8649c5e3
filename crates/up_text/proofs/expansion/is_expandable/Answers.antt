use Rattle.std.proofs.Common.{◌≡◌, ◌∙◌, [], sym, ap, is_some, arith, rules}
use Rattle.std.proofs.lemmas.Bool.{eqb-true}
use Rattle.std.proofs.lemmas.List.{nil_from_length}
use Rattle.up_text.specs.Expansion.{signs, texts_of}
use Rattle.up_text.proofs.Nesting.{ended, expandable-signs, is_some-piece_texts}
use Rattle.up_text.proofs.expansion.is_expandable.Goals as goal

pub pieces-init : goal.pieces-init
pieces-init c = record { is_text = c.utf8.text; shallow = omega arith; same = sym (expandable-signs c.args.text.now) }

pub returns-in_default : goal.returns-in_default
returns-in_default c =
    ap is_some (sym (c.in_default.ensures.piece_texts (signs 0 c.read_piece.result.1.now)))
    ∙ ap (λ ss. is_some (texts_of c.pieces.depth ss)) (sym c.read_piece.ensures.same)
    ∙ c.pieces.invariant.same

pub pieces-preserved : goal.pieces-preserved
pieces-preserved c = record {
  is_text = search rules;
  shallow = c.in-Some.ensures.shallow;
  same =
      sym (is_some-piece_texts c.pieces.depth c.in-Some.deeper c.read_piece.result.0 (signs 0 c.read_piece.result.1.now))
      ∙ ap is_some (sym (c.in-Some.ensures.piece_texts (signs 0 c.read_piece.result.1.now)))
      ∙ ap (λ ss. is_some (texts_of c.pieces.depth ss)) (sym c.read_piece.ensures.same)
      ∙ c.pieces.invariant.same;
}

pub returns : goal.returns
returns c =
    let none : c.pieces.rest.now ≡ [] = nil_from_length c.pieces.rest.now (eqb-true _ 0 (sym c.is_empty.ensures ∙ c.pieces-test.false)) in
    sym (ended c.pieces.depth) ∙ ap (λ text. is_some (texts_of c.pieces.depth (signs 0 text))) (sym none) ∙ c.pieces.invariant.same
