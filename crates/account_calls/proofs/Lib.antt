-- From what the core does to ranges to what is promised of accounts; Demand has demand 3 of them, and what is promised of the figure.
pub mod Judged
pub mod Steps
pub mod Refusals
pub mod Shows
pub mod Demand
