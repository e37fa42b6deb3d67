-- What the contract of taking cites.
pub mod Take
