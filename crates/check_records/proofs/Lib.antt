-- Laws of the records' test.
pub mod Tests
pub mod Bits
pub mod Owned
pub mod Records
