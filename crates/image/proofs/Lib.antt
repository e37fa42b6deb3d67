-- Laws of the image.
pub mod Ways
pub mod Tight
pub mod Fitting
pub mod ReadBack
pub mod WriteBack
pub mod Rounds
pub mod Standing
pub mod Versions
