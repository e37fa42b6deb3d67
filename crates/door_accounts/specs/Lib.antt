-- What the contracts of the total and the listing cite, as C has them.
pub mod Accounts
