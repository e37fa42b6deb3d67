-- Laws of the image by value.
pub mod Current
pub mod Ways
pub mod Rounds
