-- What the contracts cite of an account.
pub mod Account
pub mod Lent
