use Rattle.std.proofs.Common.{◌≡◌, ◌++◌, length, option_map}
use Rattle.up_text.specs.Lexemes.{lexemes_of}
use Rattle.up_script.specs.Statements.{after_step, texts_in, ReachesNoFurther}
use Rattle.up_script.proofs.script.step_words.Given as goal

-- the words so far stand before those that are left
abbrev pub invariant-words : goal.invariant-words
invariant-words l = record {
  words : option_map (λ words. l.words.items ++ words) (texts_in (lexemes_of l.lexer)) ≡ texts_in (lexemes_of l.fn.lexer);
  after : after_step (lexemes_of l.lexer) ≡ after_step (lexemes_of l.fn.lexer);
  within : ReachesNoFurther l.lexer l.fn.lexer;
}

abbrev pub decreases-words : goal.decreases-words
decreases-words l = length (lexemes_of l.lexer)
