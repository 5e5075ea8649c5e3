pub use Rattle.up_pattern.specs.Lists
pub use Rattle.up_pattern.specs.Pattern
pub use Rattle.up_value.specs.Bindings
pub use Rattle.up_value.specs.Fault
pub use Rattle.up_value.specs.Names
-- How the text of a job file or a script is read as tokens, by init(5).
pub mod Tokens
-- Where a text is read, and what each reading gives and leaves.
pub mod Places
-- The lines of a script, up to `end script`.
pub mod Scripts
-- What the parts of the lexer read.
pub mod Lexer
-- What the parts of the lexer read of a command's text.
pub mod CommandParts
-- The text of a command, which is the rest of its stanza as it is written.
pub mod Commands
-- A text without its comments.
pub mod Comments
-- What a text with expansions of `$KEY` says, and what it expands to.
pub mod Expansion
-- What the code that expands a text reads and writes at a time.
pub mod Expanding
-- All that a text means, token by token.
pub mod Lexemes
-- Tokens printed plainly, and what is read from that.
pub mod Printing
-- The tokens of a stanza, and where they end.
pub mod Statements
