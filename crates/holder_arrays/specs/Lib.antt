-- What the contracts cite of the lent arrays.
pub mod Arrays
