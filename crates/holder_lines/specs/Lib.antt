-- The lines of the script after a first line `holders`.
pub mod Lines
