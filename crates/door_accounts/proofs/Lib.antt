-- Laws of the total and the listing as C has them.
pub mod Ways
