-- What the proofs use.
pub mod Tops
pub mod Listing
