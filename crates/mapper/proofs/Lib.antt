-- What the proofs use; Refusals has the promise of a refused map.
pub mod Passes
pub mod Refusals
