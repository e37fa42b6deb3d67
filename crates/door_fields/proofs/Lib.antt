-- Laws of eleven lent fields.
pub mod Sized
