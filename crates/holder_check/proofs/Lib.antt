-- The ranges of a listing, the tests of an entry, and the check of the whole.
pub mod Spans
pub mod Entries
pub mod Listed
pub mod Owned
pub mod Exact
