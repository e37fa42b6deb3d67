-- What the contracts cite of blocks in the way.
pub mod Blocks
