-- The ledger's claim, and those about the cases beside it.
pub mod Ledger
pub mod Trials
