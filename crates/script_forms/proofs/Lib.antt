-- Laws of the forms: Same on the first line, Turns on a line in either, Capped on long lines, Soundness on the state.
mod Same
mod Turns
pub mod Capped
pub mod Soundness
