-- What the contracts cite of reading an image.
pub mod Reading
