-- Demands 2 and 3 as request T-07 reads them.
pub mod Demand
