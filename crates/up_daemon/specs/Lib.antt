-- Which clients are connected.
pub mod Connected
-- The refusals of a daemon.
pub mod Refusals
-- What a round knows of a client.
pub mod Peers
-- What is said and answered at one client.
pub mod Hearing
-- Who is let in.
pub mod Visits
-- What a round is seen as while it goes on.
pub mod RoundStates
-- What a round does, call by call.
pub mod Rounds
-- How the parts of a round see what it did so far, from its door and its clients.
pub mod Seating
-- What a daemon's engine answered.
pub mod Answering
-- What a request is fed as.
pub mod Asking
-- What the work of a daemon is seen as.
pub mod Working
-- What a contract sees of a daemon.
pub mod Daemons
-- How the requests of a round are numbered.
pub mod Numbering
-- Which clients a round reads on.
pub mod Wholeness
-- The numbers by which the loops of a round end.
pub mod Ending
-- What is asked and answered in a round.
pub mod Exchanges
-- How many calls a round makes.
pub mod Counting
-- Who is closed in a round, and why.
pub mod Departing
-- The laws of a round.
pub mod Laws
