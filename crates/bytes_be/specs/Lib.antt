-- What the contracts cite of numbers in bytes.
pub mod Numbers
