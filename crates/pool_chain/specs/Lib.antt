-- What the contracts of the chain cite.
pub mod Chain
