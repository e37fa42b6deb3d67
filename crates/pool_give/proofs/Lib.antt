-- Laws of giving.
pub mod Joining
