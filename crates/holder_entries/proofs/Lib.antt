-- Turns of the walks along the entries, the tests of one, and what a place says of the register.
pub mod Turns
pub mod Tests
pub mod Says
