-- Laws of the parts of a chunk, of a turn, and of all turns.
mod Parts
pub mod Turns
pub mod Books
