-- The walk's ledger, and every T0SZ at every level, closed by computation.
pub mod Ledger
pub mod Levels
