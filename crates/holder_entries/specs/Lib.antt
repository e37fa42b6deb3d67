-- What the contracts cite of entries.
pub mod Places
