-- What the proofs use.
pub mod Meeting
