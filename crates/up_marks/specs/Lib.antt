-- What the nodes of an expression remember, by what its leaves keep.
pub mod Marking
-- What it means that marks agree with what an expression has seen.
pub mod Agreeing
-- Which expressions name an event, and where in them.
pub mod Naming
-- Offers that change nothing: which expression is offered the event of a step next, and when that leaves all
-- but a note of the offer.
pub mod Skipping
-- What it means that a trigger agrees with what an expression has seen, which a job file may not have.
pub mod Triggers
-- Which events an expression can't match, whatever its values expand to.
pub mod Ruling
-- When marks are those of an expression's nodes, told of each node by itself and those that it joins.
pub mod Settling
-- Which value a leaf wants of an event, and which job is the first with a leaf that may match one.
pub mod Finding
