-- What the contracts cite of the parts of an image.
pub mod Layout
pub mod Written
pub mod Read
