-- What the allocator promises, what is kept of its calls, and what else a client cites.
pub mod Promises
pub mod States
pub mod Names
