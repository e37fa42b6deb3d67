-- What the contracts cite of tables that lie apart.
pub mod Apart
pub mod Reached
