-- Laws of the chain.
pub mod Chain
pub mod Neighbours
pub mod Overlap
pub mod Held
pub mod Nearest
