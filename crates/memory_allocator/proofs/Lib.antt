-- Laws of the promises; Demand has demand 3 of the by-value calls, Refusals what a refusal leaves, Emptied that one without bytes is new.
pub mod Steps
pub mod Demand
pub mod Refusals
pub mod Emptied
