-- What the contracts of the register's C calls cite, and demands 2 and 3 of them.
pub mod Calls
pub mod Fields
pub mod Doors
