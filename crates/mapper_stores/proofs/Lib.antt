-- What the proofs use.
pub mod Storing
