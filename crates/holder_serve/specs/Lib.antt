-- What the contracts of the calls cite.
pub mod Pieces
pub mod Made
