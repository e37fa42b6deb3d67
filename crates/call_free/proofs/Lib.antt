-- Laws of the call.
pub mod Free
