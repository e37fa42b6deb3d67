-- What the contracts of the held ranges cite.
pub mod Places
pub mod Holdings
