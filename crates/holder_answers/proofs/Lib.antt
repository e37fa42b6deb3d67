-- Laws of the answers: Serving on calls and lines, Listing on the lists.
pub mod Serving
mod Listing
