-- What the journal's calls answer, and what they leave in what is lent.
pub mod Calls
