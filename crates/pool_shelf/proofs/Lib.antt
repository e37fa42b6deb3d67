-- Laws of the shelf.
pub mod Shelf
pub mod Fits
