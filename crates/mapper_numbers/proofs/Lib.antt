-- Sums that are not made, and the figures of the registers, by computation.
pub mod Sums
pub mod Figures
