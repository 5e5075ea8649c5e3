-- How a text is kept as bytes.
pub mod Texts
-- The index of a table.
pub mod Index
-- The versions of an image, and what version 1 can't say.
pub mod Versions
-- How a table is kept as bytes.
pub mod Image
-- What a folder of job files is compiled to.
pub mod Compiling
-- The numbers and names of errors of images.
pub mod ImageErrors
-- Which jobs a job file with its override can give.
pub mod Definable
-- What stands first in bytes, and the bytes after it.
pub mod Finding
-- When bytes are read as a table, and why they are refused.
pub mod Reading
-- Why a folder isn't compiled.
pub mod Refusals
