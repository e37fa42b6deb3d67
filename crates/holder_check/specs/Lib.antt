-- What the contracts of the check cite.
pub mod Spans
pub mod Tests
