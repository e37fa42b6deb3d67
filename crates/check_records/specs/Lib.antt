-- What the contracts cite of the records.
pub mod Records
