-- The check says what the paragraph says.
pub mod Orders
pub mod Joined
pub mod Walked
pub mod BothWalks
pub mod Family
pub mod Sums
pub mod Clauses
pub mod Passes
pub mod Finds
pub mod Threaded
pub mod Holding
pub mod Held
pub mod Exact
pub mod Owned
