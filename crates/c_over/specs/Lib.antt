-- What the contracts of the C calls cite, and what is kept of the calls.
pub mod CCalls
pub mod Images
pub mod Lists
