use Rattle.up_text.proofs.Cuts.{IsCharBoundary-before}
use Rattle.up_text.proofs.Signs.{is_plain, plain-ascii, signs-run}
use Rattle.up_text.proofs.expansion.read_piece.Goals as goal

pub split_at-requires : goal.split_at-requires
split_at-requires c = rw (c.run_len.ensures, c.as_bytes.ensures.value) (IsCharBoundary-before is_plain c.args.text.now plain-ascii)

pub returns-clause-same : goal.returns-clause-same
returns-clause-same c = rw (c.split_at.ensures.front, c.split_at.ensures.back, c.run_len.ensures, c.as_bytes.ensures.value) (signs-run c.args.text.now)
