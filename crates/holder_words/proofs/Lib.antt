-- Laws of a register in words.
mod Storing
pub mod Fresh
