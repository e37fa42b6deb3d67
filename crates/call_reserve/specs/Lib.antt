-- What the contract of a search with its move cites.
pub mod Piece
pub mod Served
