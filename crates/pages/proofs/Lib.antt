-- Same shows that a page call is one call of the allocator, Paged demand 3 in pages of any door that serves so, Demand that of the states.
pub mod Same
pub mod Keeping
pub mod Paged
pub mod Demand
