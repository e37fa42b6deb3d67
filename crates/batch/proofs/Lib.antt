-- Laws of lists of calls; Histories has demand 3 of lists of lists, Cuts that a list may be cut anywhere.
pub mod InWords
pub mod Runs
pub mod Histories
pub mod Going
pub mod Ways
pub mod Cuts
