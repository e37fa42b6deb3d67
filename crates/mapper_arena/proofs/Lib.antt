-- Words cleared one after another.
pub mod Clearing
