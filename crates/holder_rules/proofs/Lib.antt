-- What is known of a register that is held by value, and the claim about the cases.
pub mod Owned
pub mod Cases
