-- Laws of reading an image.
pub mod Tests
pub mod Grown
pub mod Whole
pub mod Figure
