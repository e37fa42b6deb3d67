-- Laws of the total and the listing.
pub mod Shows
