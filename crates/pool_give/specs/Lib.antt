-- What the contract of giving cites.
pub mod Give
