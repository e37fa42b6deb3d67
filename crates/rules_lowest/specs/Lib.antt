-- What a reader must believe of the lowest figure, what is promised of it, and examples.
pub mod Lowest
pub mod Carried
pub mod Cases
