-- Laws of an account.
pub mod Exact
pub mod Ways
