-- What the contracts of the shelf cite.
pub mod Fits
pub mod Shelf
