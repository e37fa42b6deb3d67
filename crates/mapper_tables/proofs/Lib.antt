-- What the proofs use.
pub mod Pages
pub mod Windows
pub mod Tops
pub mod Fresh
pub mod Whole
