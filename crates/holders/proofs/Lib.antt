-- Demands 2 and 3 of the calls by value, and that their contracts determine everything.
pub mod Demand
pub mod Refusals
