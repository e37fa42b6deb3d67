-- What the proofs use.
pub mod Asking
