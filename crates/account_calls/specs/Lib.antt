-- What the calls on an account promise, and the account as an engine.
pub mod Made
pub mod Accounts
pub mod Engine
