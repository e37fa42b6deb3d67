-- Laws of the check.
pub mod Whole
