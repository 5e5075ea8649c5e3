-- The bytes by which a client asks.
pub mod Frames
-- The bytes by which a client is answered.
pub mod Answers
-- The numbers of faults of frames and words.
pub mod Fault
-- What a feed makes of the bytes that it is given.
pub mod Feeding
-- The fields of a payload, read one after another.
pub mod Fields
-- Bytes as numbers.
pub mod Octets
-- The request that a command's words are.
pub mod Words
-- The command line of `initctl`.
pub mod Usage
