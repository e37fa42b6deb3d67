-- What the contract of the map cites, and what is promised of a refused one.
pub mod Maps
pub mod Refusals
