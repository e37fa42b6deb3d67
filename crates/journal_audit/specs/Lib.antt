-- What an audit answers, and the vouchers of a journal.
pub mod Audit
pub mod Vouchers
