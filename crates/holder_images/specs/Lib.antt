-- What the contracts cite of the image of an allocator with its register, and what is promised of it.
pub mod Writing
pub mod Reading
pub mod Promises
