-- What answers the calls, lists of calls made on it, and demand 3 of them.
pub mod Engine
pub mod Demand
