-- What the program's functions promise.
pub mod Program
