pub use Rattle.up_stanza.specs.Actions
pub use Rattle.up_stanza.specs.Arguments
pub use Rattle.up_stanza.specs.Confs
pub use Rattle.up_stanza.specs.FaultCodes
pub use Rattle.up_stanza.specs.Grammar
pub use Rattle.up_stanza.specs.Kinds
pub use Rattle.up_stanza.specs.Numbers
pub use Rattle.up_stanza.specs.Reading
pub use Rattle.up_stanza.specs.Settings
pub use Rattle.up_stanza.specs.Signals
pub use Rattle.up_stanza.specs.Stanzas
-- Which job the stanzas of its files define (init(5)).
pub mod Jobs
-- Lists in order.
pub mod Order
-- What the files of a folder say (init(5)).
pub mod Folders
-- What stanzas make of a job, the keys apart, and where these are found.
pub mod Gathering
-- What a map from paths to bytes holds.
pub mod Lookups
-- What reading the files of a folder gives.
pub mod Outcomes
