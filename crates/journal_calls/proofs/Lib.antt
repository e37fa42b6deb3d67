-- Laws of the journal's calls.
pub mod Ways
