-- Laws of writing an image.
pub mod Renewing
pub mod Pinned
