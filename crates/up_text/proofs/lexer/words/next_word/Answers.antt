use Rattle.up_text.specs.Lexer.{is_in_word}
use Rattle.up_text.proofs.Cuts.{IsCharBoundary-before}
use Rattle.up_text.proofs.Scripting.{rest-cut, word-cut, word-ascii}
use Rattle.up_text.proofs.lexer.words.next_word.Goals as goal

pub split_at-requires : goal.split_at-requires
split_at-requires c = rw (c.word_len.ensures, c.as_bytes.ensures.value) (IsCharBoundary-before is_in_word c.split_blanks.result.1.now word-ascii)

pub returns-clause-begins : goal.returns-clause-begins
returns-clause-begins c = word-cut c.args.text.now _ _ _ _ _ _ c.split_blanks.ensures c.as_bytes.ensures.value c.word_len.ensures c.split_at.ensures.front c.split_at.ensures.back

pub returns-clause-after : goal.returns-clause-after
returns-clause-after c = rest-cut c.args.text.now _ _ _ _ _ _ c.split_blanks.ensures c.as_bytes.ensures.value c.word_len.ensures c.split_at.ensures.front c.split_at.ensures.back
