-- What a line prints and leaves after a first line `holders`.
pub mod Answers
