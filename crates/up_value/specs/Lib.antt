-- The values that definitions speak of.
pub mod Values
-- The bytes of a text or a name.
pub mod Chars
-- Names, keys and values (init(5)).
pub mod Names
-- Environments: lists of distinct keys with values.
pub mod Bindings
-- Where the pairs of an environment are.
pub mod Pairs
-- The numbers and names of faults of texts.
pub mod Fault
