-- The numbers and names of faults of expressions.
pub mod Fault
-- An expression as a tree, without where its parts lie in memory.
pub mod Trees
-- What the tokens of a leaf say (init(5), "Event conditions").
pub mod Values
-- Whether a leaf matches an event (init(5), "Event conditions"; fnmatch(3)).
pub mod Matching
-- What an expression says of the events that it has seen, oldest first (init(5), "start on").
pub mod Truth
-- An expression as a flat list of nodes in post-order, and what such a list says.
pub mod Flat
-- The grammar of an expression (init(5), "start on").
pub mod Syntax
-- How a parser goes through the tokens of an expression, one after another.
pub mod Parsing
-- What the parts of a value's text say, what is kept of a tree, and the fault of what is refused.
pub mod Parts
-- How a tree is stored.
pub mod TreeCode
-- How the nodes of several expressions lie one after another.
pub mod Laying
-- What stands at the root of a part of an expression.
pub mod Branches
-- The events of jobs (starting(7), started(7), stopping(7), stopped(7)).
pub mod JobEvents
