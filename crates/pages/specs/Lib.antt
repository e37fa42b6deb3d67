-- What the contracts cite; page calls, demand 3 of them, and the door at which the states serve them.
pub mod Pages
pub mod Calls
pub mod Demand
pub mod States
