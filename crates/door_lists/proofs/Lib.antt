-- Laws of lists of calls on a state of one's own, and of images of it.
pub mod Kept
pub mod Ways
