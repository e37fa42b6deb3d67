-- Laws of rounding and of list numbers.
pub mod Rounding
pub mod Zeros
