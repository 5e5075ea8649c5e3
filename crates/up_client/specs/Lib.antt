-- What is sent, and what is heard.
pub mod Asking
-- The statuses of the program (initctl(8), EXIT STATUS).
pub mod Statuses
-- The command line of the program.
pub mod Usage
