-- What is heard of an input and printed, and what the arrays hold of it between two chunks.
pub mod Input
