-- Laws and theorems: Decimal and Buffers on what is printed, Round on lines that say a call, Examples on the document's cases.
pub mod Decimal
pub mod Buffers
pub mod Round
pub mod Examples
