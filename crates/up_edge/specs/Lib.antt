-- What a host, a door or a source keeps of its calls.
pub mod Calls
-- What a contract sees of a journal.
pub mod Journals
-- Which calls of a script fail.
pub mod Failing
-- How many processes live.
pub mod Living
-- What a look at the children may find.
pub mod Looking
-- How a process ended, by what wait(2) tells.
pub mod Ends
-- The command that starts an order's process.
pub mod Commands
-- What a poll of a script finds.
pub mod Scripts
-- How a call of a door changes which clients are connected.
pub mod Connecting
-- What a close reports.
pub mod Closing
-- Which clients a slab holds.
pub mod Clients
-- Which paths a socket may have (unix(7)), and why one is refused.
pub mod Sockets
-- What a read of a script may find.
pub mod Speaking
