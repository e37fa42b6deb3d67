-- Whose ranges, and what the lists and totals promise.
pub mod Whose
pub mod Accounts
