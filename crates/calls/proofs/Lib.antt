-- Laws of the answers: what they say, and how a call ends.
pub mod Below
pub mod Numbers
pub mod Endings
