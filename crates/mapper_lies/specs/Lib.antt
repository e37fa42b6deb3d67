-- What the contracts cite of an arena and what lies in it.
pub mod Lies
