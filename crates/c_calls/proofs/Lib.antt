-- What an upgrade returns.
pub mod Signed
