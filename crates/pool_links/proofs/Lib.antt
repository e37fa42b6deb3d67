-- Laws of the searches.
pub mod Hits
