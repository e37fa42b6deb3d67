-- Laws that several proofs cite.
mod Splits
mod Numbers
pub mod Reading
