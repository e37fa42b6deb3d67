-- Parts of the register's image.
pub mod Parts
pub mod Rounds
pub mod Fitting
pub mod Put
pub mod Pinned
