-- Laws of a journal's bytes.
pub mod Ways
pub mod Laid
pub mod Seen
pub mod Rounds
pub mod Back
