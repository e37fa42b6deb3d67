-- Laws of the call.
pub mod Reserve
