-- What is promised of an accepted map.
pub mod Promise
