-- Numbers in their places, and the ranges that are listed so far.
pub mod Moves
pub mod Ranges
pub mod Answers
pub mod Writing
