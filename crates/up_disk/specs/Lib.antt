-- What is read of a folder on the disk.
pub mod Walk
-- What is printed of a folder on the disk, and the status.
pub mod Disk
-- What an engine's answers print.
pub mod Running
-- What folders are compiled to, one after another.
pub mod Compiling
-- What a replay prints, and its status.
pub mod Replay
