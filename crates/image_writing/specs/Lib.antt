-- What the contracts cite of writing an image.
pub mod Writing
