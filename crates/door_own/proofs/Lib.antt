-- Laws of the calls on a state of one's own.
pub mod Own
pub mod Kept
