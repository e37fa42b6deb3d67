-- What follows from the rules. Facts has the document's words on list numbers, rounding and the widened reserve; the others lead to it, or to demand 3 in the crate `engine`.
pub mod Lists
pub mod Kept
pub mod Outcomes
pub mod Steps
pub mod Bytes
pub mod HandBack
pub mod Facts
pub mod Shelf
pub mod Sums
pub mod Multiples
pub mod Fours
