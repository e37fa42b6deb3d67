-- The walk and its ledger; the numbers that a map refuses, and cases of them.
pub mod Walk
pub mod Ledger
pub mod Numbers
pub mod Asks
