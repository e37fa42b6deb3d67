-- What the proofs use.
pub mod Strides
pub mod Blocks
