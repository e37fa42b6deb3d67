-- Laws of taking.
pub mod Pieces
