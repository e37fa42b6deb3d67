-- Document 01 on a sound state.
pub mod Paragraph
