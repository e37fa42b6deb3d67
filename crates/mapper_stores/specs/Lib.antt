-- What the contracts cite of the stores.
pub mod Stores
