-- What reading and writing promise.
pub mod Streams
