-- What the contracts of eleven lent fields cite.
pub mod Fields
