-- What the contracts of the links and of the searches cite.
pub mod Hits
pub mod Linking
