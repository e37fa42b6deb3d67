-- What the total and the listing promise.
pub mod Accounts
