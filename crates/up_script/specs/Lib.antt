-- How a bundle is read.
pub mod Bundle
-- The variables of its events and requests, KEY=VALUE.
pub mod Variables
-- The requests of a replay script.
pub mod Requests
-- What the lines of a script say.
pub mod Script
-- The steps of a script.
pub mod Statements
-- The inputs that they give.
pub mod ScriptInputs
-- The script that says inputs.
pub mod Written
