-- What is printed of a folder.
pub mod Folders
-- The lines that are printed.
pub mod Lines
-- What a stream that keeps its failures has noted.
pub mod Noting
-- What is written as far as a writer takes it.
pub mod Writing
-- What is said below a fault.
pub mod Advice
-- The jobs and the events that join them, as a graph.
pub mod Graph
