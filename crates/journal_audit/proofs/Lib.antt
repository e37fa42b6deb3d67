-- Laws of an audit.
pub mod Ways
pub mod Underway
pub mod Runs
pub mod Exact
pub mod Closes
pub mod Parts
