-- Laws of what the arrays show.
pub mod Walks
pub mod States
pub mod Book
pub mod Places
