use Rattle.std.proofs.Common.{◌≡◌, [], drop, map}
use Rattle.up_wire.specs.Words.{with_words}
use Rattle.up_wire.proofs.words.with_words.Given as goal

-- what is left, after the variables so far, gives the whole
abbrev pub invariant-loop-word : goal.invariant-loop-word
invariant-loop-word l = with_words l.vars (drop l.word-index (map (λ word. word.now) l.words)) ≡ with_words [] (map (λ word. word.now) l.words)
