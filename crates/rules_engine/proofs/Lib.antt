-- An engine that obeys the rules meets demand 3. Multiples has the law of multiples.
pub mod Obeys
pub mod Demand
pub mod Multiples
pub mod Histories
