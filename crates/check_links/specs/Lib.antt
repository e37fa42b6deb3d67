-- What the contracts cite of the walks.
pub mod Walk
pub mod Walks
pub mod Bounds
