-- What the contracts of lists of calls cite, and lists of lists.
pub mod InWords
pub mod Lists
pub mod Histories
