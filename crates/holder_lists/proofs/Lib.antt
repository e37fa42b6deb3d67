-- The bytes of held ranges, and what is asked of a state.
pub mod Sums
pub mod Answers
