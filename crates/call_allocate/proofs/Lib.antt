-- Laws of the call.
pub mod Allocate
pub mod Looking
