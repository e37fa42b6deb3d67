-- Laws of the walks.
pub mod Walk
pub mod Steps
pub mod Chain
pub mod Bounds
pub mod Lists
