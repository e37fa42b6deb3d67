-- What the contracts cite of the texts.
pub mod Answers
