use Rattle.std.proofs.Common.{◌≡◌, ◌++◌, length}
use denote.Text.{Utf8}
use denote.Shadow.{shadow}
use Rattle.up_text.specs.Scripts.{words_in}
use Rattle.up_stanza.proofs.command.split_words.Given as goal

-- the words so far stand before those of the rest
abbrev pub invariant-words : goal.invariant-words
invariant-words l = record {
  same : l.words.items ++ words_in l.rest ≡ words_in l.text;
  is_text : shadow (Utf8 l.rest);
}

abbrev pub decreases-words : goal.decreases-words
decreases-words l = length l.rest
