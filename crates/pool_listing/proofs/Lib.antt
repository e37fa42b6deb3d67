-- Laws of the listing.
pub mod Answers
pub mod Walk
pub mod Writing
