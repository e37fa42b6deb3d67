-- What a reader must believe of the mapping: tables and what they lead to, what a mapping makes of them, its stores in their order, what is
-- promised of them, and maps of some words; marks, and the words of an arena.
pub mod Tree
pub mod Mapping
pub mod Stores
pub mod Promise
pub mod Trials
pub mod Marks
pub mod Arena
