-- What a process runs (init(5), `exec` and `script`).
pub mod Actions
-- Decimal numbers.
pub mod Numbers
-- The signals that a job file may name (signal(7)).
pub mod Signals
-- How a process may end (init(5), `normal exit`).
pub mod Exits
-- What a token says that is one of a list of arguments (init(5)).
pub mod Settings
-- What a stanza says whose arguments are the tokens up to its end (init(5)).
pub mod Arguments
-- The first tokens of stanzas (init(5)).
pub mod Kinds
-- What the stanzas of a job file say (init(5)).
pub mod Stanzas
-- What a job file says, and which of its lines is unreadable (init(5)).
pub mod Confs
-- The codes of the faults of a file.
pub mod FaultCodes
-- The grammar of a job file (init(5)).
pub mod Grammar
-- Which line of a job file is at fault, by the grammar (init(5)).
pub mod FirstFaults
-- How a reader goes on in a text.
pub mod Reading
