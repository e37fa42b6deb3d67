-- Laws of calls over an image; Demand states demand 3 over the images, Pages the same in pages, Refusals what a refusal leaves.
pub mod Ways
pub mod Images
pub mod Refusals
pub mod Demand
pub mod Pages
pub mod Batches
