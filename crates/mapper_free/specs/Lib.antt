-- What the contracts cite of the free ranges of an image.
pub mod Free
