-- What the contracts cite of the byte image.
pub mod Writing
pub mod Reading
