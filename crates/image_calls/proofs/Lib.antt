-- Laws of calls over an image.
pub mod Lists
