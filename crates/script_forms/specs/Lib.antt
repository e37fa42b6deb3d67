-- Which forms the lines have, and what a line prints and leaves in either.
pub mod Forms
