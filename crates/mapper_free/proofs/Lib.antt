-- What the proofs use.
pub mod Painting
pub mod Ranges
