-- Laws of the parts of an image.
pub mod Loops
pub mod Parts
pub mod Places
pub mod Lawful
pub mod Figures
