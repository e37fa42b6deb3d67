-- The ladders of refusals, and the piece of an accepted take.
pub mod Ladders
pub mod Accepted
