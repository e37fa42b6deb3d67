-- What the contracts cite of the words.
pub mod Words
