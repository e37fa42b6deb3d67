-- Laws of the records in use.
pub mod Unused
pub mod Books
pub mod Moves
pub mod Endings
