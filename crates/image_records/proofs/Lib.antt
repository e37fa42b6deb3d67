-- Laws of the records in an image.
pub mod Rooms
pub mod Tests
pub mod Decoding
pub mod Tallied
