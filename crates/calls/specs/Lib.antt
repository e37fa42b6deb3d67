-- The calls as code has them, and what a call in place answers.
pub mod Calls
pub mod Answers
