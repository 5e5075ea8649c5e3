use Rattle.std.proofs.Common.{◌∙◌, string_bytes, ap, arith, rules}
use Rattle.up_text.specs.Expansion.{expand, signs, texts_of}
use Rattle.up_text.proofs.Written.{remains-start, remains-given, remains-unneeded, gives_memory}
use Rattle.up_text.proofs.expansion.write_text.Goals as goal

pub pieces-init : goal.pieces-init
pieces-init c = record {
  is_text = c.utf8.text;
  shallow = omega arith;
  remains = rw c.new-out.ensures.bytes (remains-start c.args.text.now c.args.env.now c.requires);
}

pub returns-in_err-push_str-in-Text : goal.returns-in_err-push_str-in-Text
returns-in_err-push_str-in-Text c = gives_memory c.args.text.now c.args.env.now c.from_residual.result c.requires (search rules)

pub pieces-preserved-in_ok-push_str-in-Text : goal.pieces-preserved-in_ok-push_str-in-Text
pieces-preserved-in_ok-push_str-in-Text c =
    let same = ap (texts_of c.pieces.depth) c.read_piece.ensures.same ∙ c.in-Some.ensures.piece_texts (signs 0 c.read_piece.result.1.now) in
    record {
      is_text = search rules;
      shallow = c.in-Some.ensures.shallow;
      remains = rw c.in_ok-push_str-in-Text.ensures.bytes (remains-given c.args.env.now (expand c.args.text.now c.args.env.now) (string_bytes c.pieces.out) c.in-Text.bytes.now c.pieces.depth c.pieces.kept c.in-Some.deeper c.read_piece.result.0 _ _
          c.pieces.invariant.remains same c.if-depth-kept.true c.in-Some.ensures.depth c.in-Text.ensures);
    }

pub pieces-preserved : goal.pieces-preserved
pieces-preserved c =
    let same = ap (texts_of c.pieces.depth) c.read_piece.ensures.same ∙ c.in-Some.ensures.piece_texts (signs 0 c.read_piece.result.1.now) in
    record {
      is_text = search rules;
      shallow = c.in-Some.ensures.shallow;
      remains = remains-unneeded c.args.env.now (expand c.args.text.now c.args.env.now) (string_bytes c.pieces.out) c.pieces.depth c.pieces.kept c.in-Some.deeper c.read_piece.result.0 _ _
          c.pieces.invariant.remains same c.if-depth-kept.false c.in-Some.ensures.depth;
    }
