-- The check of an image, the ladders of refusals, and the pieces of accepted takes.
pub mod Sound
pub mod Begins
pub mod Ladders
pub mod Settled
pub mod Machine
pub mod Fields
pub mod Pieces
pub mod Doors
