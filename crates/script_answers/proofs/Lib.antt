-- Laws of what is printed: Listings on a chain's listing, Replies on a line.
mod Listings
pub mod Replies
