-- Laws of the lowest figure; Carried has what is promised of it, for every engine that obeys the rules and notes it, Cases the examples.
pub mod Totals
pub mod Least
pub mod Carried
pub mod Cases
