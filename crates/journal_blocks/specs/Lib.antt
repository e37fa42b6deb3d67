-- The layout of a journal, and the bits of an answer.
pub mod Bits
pub mod Journal
