-- What the contracts cite of calls over an image.
pub mod Lists
