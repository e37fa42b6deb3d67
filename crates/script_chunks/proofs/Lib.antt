-- Laws of the input: Hearing on the bytes that are heard, Carrying on the line that is held, Answering on its answer, Soundness on the state.
pub mod Hearing
mod Carrying
pub mod Answering
pub mod Soundness
