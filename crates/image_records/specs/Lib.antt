-- What the contracts cite of the records in an image.
pub mod Records
