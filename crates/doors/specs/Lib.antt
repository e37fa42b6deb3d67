-- What the contracts of the doors cite.
pub mod Lent
