-- What the contracts cite of an upgrade.
pub mod Upgrades
