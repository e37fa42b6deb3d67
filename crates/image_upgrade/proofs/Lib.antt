-- Laws of an upgrade.
pub mod Ways
pub mod Upgrading
